-- Bytes put at a place, for the contracts of the steps of writing. Rests on `listing`.
use Rattle.std.specs.Prelude.{List, ◌≡◌, ℕ, ◌+◌, length}
use Rattle.listing.specs.Held.{put}

-- The bytes `l` have been put at a place of the old ones, and `next` is the place after them.
pub record Puts (place : ℕ) (l old : List ℕ) (next : ℕ) (new : List ℕ) : Type 0 where
  pub after : next ≡ place + length l
  pub stand : new ≡ put place l old
