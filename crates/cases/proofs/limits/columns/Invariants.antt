-- `columns`: the next place is never past the list.
use Prim.Native.Nat.{◌≤◌}
use Rattle.cases.proofs.limits.columns.Given as goal

abbrev pub invariant-loop-c : goal.invariant-loop-c
invariant-loop-c l = l.n ≤ 12001
