-- `strike`: the columns gone through have been struck.
use Prim.Native.Nat.{ℕ, ◌≤◌}
use Rattle.judge.specs.Peel.{Searched, HitsFrom, Struck}
use Rattle.judge.proofs.peel.strike.Given as goal

abbrev pub invariant-loop-col : goal.invariant-loop-col
invariant-loop-col l =
    Struck l.cols l.c l.end l.old l.initial.counts l.col-index l.counts × (l.t ≤ l.from) × ((p : ℕ) → HitsFrom p l.cols l.c l.end l.old → Searched l.initial.counts p l.from → Searched l.counts p l.t)
