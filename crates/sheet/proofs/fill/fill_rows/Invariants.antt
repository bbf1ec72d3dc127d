-- `fill_rows`: the first `i` rows have been stored.
use mathlib.Core.List.{[]}
use Rattle.listing.specs.Limits.{max_size}
use Rattle.listing.proofs.Storing.{Stored}
use Rattle.sheet.specs.Passes.{thing}
use Rattle.sheet.specs.Reading.{rows_at}
use Rattle.sheet.proofs.Rereads.{RowsLeft}
use Rattle.sheet.proofs.fill.fill_rows.Given as goal

abbrev pub invariant-loop-entry : goal.invariant-loop-entry
invariant-loop-entry l =
    let R = thing [] (rows_at l.bytes max_size l.n l.place) in
    RowsLeft l.bytes l.n l.place R l.entry-index l.least l.at × Stored 0 R l.initial.entry-items l.entry-index l.entry-items
