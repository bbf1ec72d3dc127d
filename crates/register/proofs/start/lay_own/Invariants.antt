-- `lay_own`: the places before t hold their own numbers.
use mathlib.Core.Path.{◌≡◌}
use Prim.Native.Nat.{ℕ, ◌<◌}
use Rattle.pattern.specs.Places.{at}
use Rattle.register.proofs.start.lay_own.Given as goal

abbrev pub invariant-loop-t : goal.invariant-loop-t
invariant-loop-t l = (x : ℕ) → x < l.t → at l.number-items x ≡ x
