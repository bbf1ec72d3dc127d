-- `enter`: the places of the rows before place `t` have been entered.
use mathlib.Core.List.{[]}
use Rattle.pattern.specs.Places.{at as stands}
use Rattle.register.proofs.Orders.{Entered}
use Rattle.sheet.specs.Passes.{thing}
use Rattle.sheet.specs.Reading.{order_at}
use Rattle.sheet.specs.Sheet.{firsts}
use Rattle.sheet.proofs.Rereads.{OrderLeft}
use Rattle.sheet.proofs.sound.enter.Given as goal

abbrev pub invariant-loop-t : goal.invariant-loop-t
invariant-loop-t l =
    let o = thing [] (order_at l.bytes l.m l.place) in
    OrderLeft l.bytes l.m l.place o l.t l.at × Entered l.m (stands (firsts o)) l.t l.places
