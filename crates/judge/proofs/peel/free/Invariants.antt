-- `free`: the numbers gone through, from place p on, have no place any more.
use Prim.Native.Nat.{◌+◌}
use Rattle.pattern.specs.Places.{at}
use Rattle.judge.specs.Peel.{Freed}
use Rattle.judge.proofs.peel.free.Given as goal

abbrev pub invariant-loop-x : goal.invariant-loop-x
invariant-loop-x l = Freed (at l.numbers) l.p (l.p + l.x-index) l.initial.places l.places
