-- `fill_rows`: the columns before j have been put in their places.
use Rattle.pattern.specs.Flat.{start_of}
use Rattle.pattern.specs.Turned.{row_of}
use Rattle.listing.specs.Formed.{parts_of, turned_of, total_of}
use Rattle.listing.specs.Walk.{Walked, Kept}
use Rattle.listing.proofs.turn.fill_rows.Given as goal

abbrev pub invariant-loop-j : goal.invariant-loop-j
invariant-loop-j l =
    Walked l.columns.size (start_of (turned_of l.columns)) l.cols (λ r. row_of (parts_of l.columns) r l.j) l.next
    × Kept (total_of l.columns) l.initial.cols l.cols
