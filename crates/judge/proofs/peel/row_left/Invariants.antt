-- `row_left`: the rows gone through have places.
use Prim.Native.Nat.{ℕ, ◌<◌}
use Rattle.pattern.specs.Places.{at}
use Rattle.listing.specs.Limits.{max_size}
use Rattle.judge.proofs.peel.row_left.Given as goal

abbrev pub invariant-loop-row : goal.invariant-loop-row
invariant-loop-row l = (k : ℕ) → k < l.row-index → at l.places (at l.rows k) < max_size
