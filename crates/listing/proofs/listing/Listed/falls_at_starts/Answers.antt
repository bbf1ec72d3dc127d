-- `falls_at_starts`: the parts before part k have been counted.
use mathlib.Core.Path.{sym}
use Prim.Native.Nat.{◌≤◌}
use native.Mathlib.Omega.{arith}
use Rattle.pattern.proofs.Tallies.{tally_none, tally_next}
use Rattle.listing.specs.Falls.{fall_at_start}
use Rattle.listing.proofs.Falling.{start_few}
use Rattle.listing.proofs.Listings.{part_within}
use Rattle.listing.proofs.listing.Listed.falls_at_starts.Goals as goal
use Rattle.listing.proofs.listing.Listed.falls_at_starts.Goals.{After-falls_first-sum}

pub loop-k-init : goal.loop-k-init
loop-k-init c = (omega arith, sym (tally_none (fall_at_start c.args.self.starts.now c.args.self.entries.now)))

pub falls_first-sum-requires : goal.falls_first-sum-requires
falls_first-sum-requires c = omega (arith, c.requires.0, part_within c.requires.0 c.requires.1 c.loop-k.k (omega arith))

-- A turn adds 1 or nothing.
few : (c : After-falls_first-sum) → c.falls_first-sum.result ≤ 1
few c =
    omega (arith, c.falls_first-sum.ensures, start_few c.args.self.starts.now c.args.self.entries.now c.loop-k.k)

pub loop-k-preserved : goal.loop-k-preserved
loop-k-preserved c = (
  omega (arith, few (goal.at.loop-k-preserved c).After-falls_first-sum),
  omega (arith, c.falls_first-sum.ensures, tally_next (fall_at_start c.args.self.starts.now c.args.self.entries.now) c.loop-k.k),
)

pub overflow_add-sum : goal.overflow_add-sum
overflow_add-sum c = omega (arith, few (goal.at.overflow_add-sum c).After-falls_first-sum)
