-- `lay_order`: the numbers below x stand at their places.
use Rattle.pattern.specs.Places.{at}
use Rattle.replace.proofs.Arranging.{LayingAt}
use Rattle.replace.proofs.arrange.lay_order.Given as goal

abbrev pub invariant-loop-x : goal.invariant-loop-x
invariant-loop-x l = LayingAt l.m (at l.places) l.x l.initial.numbers l.numbers
