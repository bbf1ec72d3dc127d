-- `fill_columns`: the columns before column `c` have been stored.
use mathlib.Core.List.{[]}
use Prim.Native.Nat.{◌≤◌}
use Rattle.listing.specs.Limits.{max_total}
use Rattle.sheet.specs.Passes.{thing}
use Rattle.sheet.specs.Reading.{columns_at}
use Rattle.sheet.proofs.Listings.{Listed}
use Rattle.sheet.proofs.Rereads.{ColumnsLeft}
use Rattle.sheet.proofs.fill.fill_columns.Given as goal

abbrev pub invariant-loop-c : goal.invariant-loop-c
invariant-loop-c l =
    let P = thing [] (columns_at l.bytes l.m l.place) in
    ColumnsLeft l.bytes l.m l.place P l.c l.entries l.at × (l.entries ≤ max_total) × Listed P l.initial.cs l.initial.cr l.cs l.cr l.c l.entries
