-- `agree`: the columns before place `t` stand where they should.
use mathlib.Core.List.{[]}
use mathlib.Core.Path.{◌≡◌}
use Prim.Native.Nat.{ℕ, ◌+◌, ◌<◌}
use Rattle.pattern.specs.Places.{at as stands}
use Rattle.sheet.specs.Passes.{thing}
use Rattle.sheet.specs.Reading.{order_at}
use Rattle.sheet.specs.Sheet.{seconds}
use Rattle.sheet.proofs.Rereads.{OrderLeft}
use Rattle.sheet.proofs.sound.agree.Given as goal

abbrev pub invariant-loop-t : goal.invariant-loop-t
invariant-loop-t l =
    let o = thing [] (order_at l.bytes l.m l.place) in
    OrderLeft l.bytes l.m l.place o l.t l.at × ((x : ℕ) → x < l.t → stands l.tops (stands (seconds o) x) ≡ x + 1)
