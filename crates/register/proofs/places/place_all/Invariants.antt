-- `place_all`: the numbers before place t have their places.
use mathlib.Core.Path.{◌≡◌}
use Prim.Native.Nat.{ℕ, ◌<◌}
use lib.ListN.{length}
use Rattle.pattern.specs.Places.{at}
use Rattle.listing.specs.Limits.{max_size}
use Rattle.register.proofs.places.place_all.Given as goal

abbrev pub invariant-loop-t : goal.invariant-loop-t
invariant-loop-t l = (length l.places ≡ max_size) × ((s : ℕ) → s < l.t → at l.places (at l.numbers s) ≡ s)
