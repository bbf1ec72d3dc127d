-- `topped`: the columns before place t may stand where they do.
use Prim.Native.Nat.{ℕ, ◌<◌}
use Rattle.pattern.specs.Places.{at}
use Rattle.register.specs.Order.{AtTop}
use Rattle.register.proofs.order.topped.Given as goal

abbrev pub invariant-loop-t : goal.invariant-loop-t
invariant-loop-t l = (x : ℕ) → x < l.t → AtTop l.m l.cs l.tops (at l.cols x) x
