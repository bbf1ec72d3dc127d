-- `scan_columns`: as many columns as the counter says have been read.
use mathlib.Core.List.{List}
use Prim.Native.Nat.{ℕ, ◌≤◌}
use lib.ListN.{length}
use Rattle.pattern.specs.Flat.{flat}
use Rattle.listing.specs.Limits.{max_total}
use Rattle.sheet.specs.Reading.{column_at}
use Rattle.sheet.specs.Sheet.{grown}
use Rattle.sheet.proofs.Gauges.{Partly}
use Rattle.sheet.proofs.scan.scan_columns.Given as goal

abbrev pub invariant-loop : goal.invariant-loop
invariant-loop l =
    (l.entries ≤ max_total) × Partly (column_at l.bytes l.m) grown (λ (P : List (List ℕ)). length (flat P)) l.m 0 l.place l.counter l.entries l.entries l.at
