-- `falls`: the falls among the first k entries have been counted; where there is no entry, there is none.
use mathlib.Core.Path.{◌≡◌}
use Prim.Native.Nat.{◌<◌}
use Rattle.pattern.specs.Series.{tally}
use Rattle.listing.specs.Falls.{fall}
use Rattle.listing.proofs.listing.falls.Given as goal

abbrev pub invariant-loop-k : goal.invariant-loop-k
invariant-loop-k l = (l.n ≡ 0 → l.sum ≡ 0) × (l.sum < l.k) × (l.sum ≡ tally (fall l.entries) l.k)
