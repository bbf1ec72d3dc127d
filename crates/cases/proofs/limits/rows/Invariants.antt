-- `rows`: the next place is never past the list.
use Prim.Native.Nat.{◌≤◌}
use Rattle.cases.proofs.limits.rows.Given as goal

abbrev pub invariant-loop-r : goal.invariant-loop-r
invariant-loop-r l = l.n ≤ 12001
