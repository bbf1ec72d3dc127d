-- `tops`: the columns before the index have their entries.
use mathlib.Core.List.{[]}
use mathlib.Core.Path.{◌≡◌}
use Prim.Native.Nat.{ℕ, suc, ◌<◌}
use Rattle.pattern.specs.Pattern.{column}
use Rattle.pattern.specs.Places.{at as stands}
use Rattle.pattern.specs.Series.{greatest}
use Rattle.sheet.specs.Passes.{thing}
use Rattle.sheet.specs.Reading.{columns_at}
use Rattle.sheet.proofs.Rereads.{ColumnsLeft}
use Rattle.sheet.proofs.sound.tops.Given as goal

abbrev pub invariant-loop-entry : goal.invariant-loop-entry
invariant-loop-entry l =
    let P = thing [] (columns_at l.bytes l.m l.place) in
    ((entries : ℕ) × ColumnsLeft l.bytes l.m l.place P l.entry-index entries l.at)
    × ((x : ℕ) → x < l.entry-index → stands l.entry-items x ≡ greatest (λ (r : ℕ). suc (stands l.places r)) (column P x))
