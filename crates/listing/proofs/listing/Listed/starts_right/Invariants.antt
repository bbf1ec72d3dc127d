-- `starts_right`: whether a start before start k fell.
use Prim.Native.Nat.{ℕ, ◌+◌, ◌≤◌, ◌<◌}
use Rattle.pattern.specs.Places.{at}
use Rattle.listing.specs.Listing.{Starts}
use Rattle.listing.specs.Says.{Told}
use Rattle.listing.proofs.listing.Listed.starts_right.Given as goal

abbrev pub invariant-loop-k : goal.invariant-loop-k
invariant-loop-k l = Told l.fell (¬ Starts l.m l.self.starts.now) ((i : ℕ) → i < l.k → at l.self.starts.now i ≤ at l.self.starts.now (i + 1))
