-- A look at one column. Rests on Listing.antt and `pattern`.
use Rattle.std.specs.Prelude.{List, ◌≡◌, ℕ, ◌+◌, ◌<◌, length}
use Rattle.pattern.specs.Ladder.{Unless}
use Rattle.pattern.specs.Places.{at}
use Rattle.listing.specs.Limits.{Sized}
use Rattle.listing.specs.Listing.{between, Within}

-- The column is in sight: the size is in its limits, the column is below it, there are `m + 1` starts, the column's two
-- starts do not fall, and the second is not past the list.
pub record InSight (m column : ℕ) (starts rows : List ℕ) : Type 0 where
  pub sized : Sized m
  pub below : column < m
  pub starts_long : m < length starts
  pub within : Within starts rows column

-- The places from which and up to which a look's part goes: the column's start and the next one where the column is in sight,
-- and 0 and 0, the empty part at the list's beginning, where it is not.
abbrev pub Spans : (m column : ℕ) (starts rows : List ℕ) → ℕ × ℕ → Type 0
Spans m column starts rows =
    Unless (InSight m column starts rows) (0, 0)
    (λ s. s ≡ (at starts column, at starts (column + 1)))

-- What a look hands back: what stands between these two places.
pub record Looked (m column : ℕ) (starts rows part : List ℕ) : Type 0 where
  pub from : ℕ
  pub to : ℕ
  pub spans : Spans m column starts rows (from, to)
  pub taken : part ≡ between from to rows
