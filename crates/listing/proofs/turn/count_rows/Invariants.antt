-- `count_rows`: the columns before j have been counted.
use Rattle.pattern.specs.Turned.{row_of}
use Rattle.listing.specs.Formed.{parts_of}
use Rattle.listing.specs.Walk.{Cursors}
use Rattle.listing.proofs.turn.count_rows.Given as goal

abbrev pub invariant-loop-j : goal.invariant-loop-j
invariant-loop-j l = Cursors l.columns.size (λ _. 0) (λ r. row_of (parts_of l.columns) r l.j) l.counts
