-- `fill_column`: a turn puts column j at the cursor of its row.
use Rattle.pattern.specs.Flat.{start_of}
use Rattle.pattern.proofs.Turning.{met}
use Rattle.listing.specs.Formed.{parts_of, turned_of, total_of}
use Rattle.listing.specs.Walk.{Walked, Kept}
use Rattle.listing.proofs.turn.fill_column.Given as goal

abbrev pub invariant-loop-row : goal.invariant-loop-row
invariant-loop-row l =
    Walked l.columns.size (start_of (turned_of l.columns)) l.cols (λ r. met (parts_of l.columns) r l.j l.row-index) l.next
    × Kept (total_of l.columns) l.initial.cols l.cols
