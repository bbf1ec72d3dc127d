-- `lower`: the starts before this one have been lowered.
use mathlib.Core.Path.{◌≡◌}
use Prim.Native.Nat.{ℕ, ◌+◌, ◌≤◌, ◌<◌}
use Rattle.pattern.specs.Places.{at}
use Rattle.store.proofs.starts.lower.Given as goal

abbrev pub invariant-loop-s : goal.invariant-loop-s
invariant-loop-s l =
    record {
      done : (k : ℕ) → k < l.s-index → at l.s-items k + l.n ≡ at l.initial.s-items k;
      left : (k : ℕ) → l.s-index ≤ k → at l.s-items k ≡ at l.initial.s-items k;
    }
