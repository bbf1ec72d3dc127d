-- `scan_order`: as many places as the counter says have been read.
use lib.ListN.{length}
use Rattle.sheet.specs.Reading.{pair_at}
use Rattle.sheet.specs.Sheet.{counted}
use Rattle.sheet.proofs.Gauges.{Partly}
use Rattle.sheet.proofs.scan.scan_order.Given as goal

abbrev pub invariant-loop-t : goal.invariant-loop-t
invariant-loop-t l = Partly (pair_at l.bytes l.m) counted length l.m 0 l.place l._t l._t l._t l.at
