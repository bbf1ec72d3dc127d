-- `scan_rows`: as many rows as the counter says have been read.
use Prim.Native.Nat.{◌≤◌}
use lib.ListN.{length}
use Rattle.sheet.specs.Reading.{row_at}
use Rattle.sheet.specs.Sheet.{past}
use Rattle.sheet.proofs.Gauges.{Partly}
use Rattle.sheet.proofs.scan.scan_rows.Given as goal

abbrev pub invariant-loop : goal.invariant-loop
invariant-loop l = (l.least ≤ l.m) × Partly (row_at l.bytes l.m) past length l.n 0 l.place l.counter l.counter l.least l.at
