-- `top`: the greatest of as many rows as the counter says.
use mathlib.Core.List.{[]}
use mathlib.Core.Path.{◌≡◌}
use Prim.Native.Nat.{ℕ, suc}
use lib.ListN.{take}
use Rattle.pattern.specs.Places.{at as stands}
use Rattle.pattern.specs.Series.{greatest}
use Rattle.listing.specs.Limits.{max_size}
use Rattle.sheet.specs.Passes.{thing}
use Rattle.sheet.specs.Reading.{rows_at}
use Rattle.sheet.proofs.Rereads.{RowsLeft}
use Rattle.sheet.proofs.sound.top.Given as goal

abbrev pub invariant-loop : goal.invariant-loop
invariant-loop l =
    let R = thing [] (rows_at l.bytes max_size l.n l.place) in
    RowsLeft l.bytes l.n l.place R l.counter l.least l.at × (l.top ≡ greatest (λ (x : ℕ). suc (stands l.places x)) (take l.counter R))
