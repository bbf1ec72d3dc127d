-- `falls_at_starts`: the parts before part k have been counted.
use mathlib.Core.Path.{◌≡◌}
use Prim.Native.Nat.{◌≤◌}
use Rattle.pattern.specs.Series.{tally}
use Rattle.listing.specs.Falls.{fall_at_start}
use Rattle.listing.proofs.listing.Listed.falls_at_starts.Given as goal

abbrev pub invariant-loop-k : goal.invariant-loop-k
invariant-loop-k l = (l.sum ≤ l.k) × (l.sum ≡ tally (fall_at_start l.self.starts.now l.self.entries.now) l.k)
