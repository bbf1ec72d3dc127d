-- `enter`: the places of the numbers before place t have been entered.
use Rattle.pattern.specs.Places.{at}
use Rattle.register.proofs.Orders.{Entered}
use Rattle.register.proofs.order.enter.Given as goal

abbrev pub invariant-loop-t : goal.invariant-loop-t
invariant-loop-t l = Entered l.m (at l.numbers) l.t l.places
