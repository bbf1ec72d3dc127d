-- `count_column`: a turn counts one more column for its row.
use Rattle.pattern.proofs.Turning.{met}
use Rattle.listing.specs.Formed.{parts_of}
use Rattle.listing.specs.Walk.{Cursors}
use Rattle.listing.proofs.turn.count_column.Given as goal

abbrev pub invariant-loop-row : goal.invariant-loop-row
invariant-loop-row l = Cursors l.columns.size (λ _. 0) (λ r. met (parts_of l.columns) r l.j l.row-index) l.counts
