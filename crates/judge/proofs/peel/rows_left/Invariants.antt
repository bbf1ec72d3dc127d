-- `rows_left`: how many of the rows gone through have no place.
use mathlib.Core.Path.{◌≡◌}
use Prim.Native.Nat.{◌≤◌}
use lib.Dec.{leb}
use Rattle.pattern.specs.Places.{at}
use Rattle.listing.specs.Limits.{max_size}
use Rattle.judge.specs.Sets.{counted}
use Rattle.judge.proofs.peel.rows_left.Given as goal

abbrev pub invariant-loop-x : goal.invariant-loop-x
invariant-loop-x l = (l.sum ≤ l.x-index) × (l.sum ≡ counted (λ i. leb max_size (at l.places (at l.rows i))) l.x-index)
