-- `ends_below`: the parts before part k end below m.
use Prim.Native.Nat.{ℕ, ◌+◌, ◌-◌, ◌<◌}
use Rattle.pattern.specs.Places.{at}
use Rattle.listing.proofs.listing.Listed.ends_below.Given as goal

abbrev pub invariant-loop-k : goal.invariant-loop-k
invariant-loop-k l = (i : ℕ) → i < l.k → at l.self.starts.now i < at l.self.starts.now (i + 1) → at l.self.entries.now (at l.self.starts.now (i + 1) - 1) < l.m
