-- `run`: the next place is never past the list.
use Prim.Native.Nat.{◌≤◌}
use Rattle.cases.proofs.limits.run.Given as goal

abbrev pub invariant-loop-x : goal.invariant-loop-x
invariant-loop-x l = l.at ≤ 12001
