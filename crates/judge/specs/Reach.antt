-- The places of the reached columns, for the contracts of the sweep that finds them. Rests on `pattern` and `listing`.
use Rattle.std.specs.Prelude.{Bool, not, ◌&&◌, List, ◌↔◌, ◌⊎◌, ◌≡◌, ℕ, ◌<◌, T, eqb, length}
use Rattle.pattern.specs.Pattern.{Pattern, has, column, Entry}
use Rattle.pattern.specs.Places.{at, place}
use Rattle.pattern.specs.Reach.{Reach}
use Rattle.listing.specs.Limits.{max_size, max_mark}

-- The pattern that the columns of each row make.
abbrev pub ByRows : List (List ℕ) → Pattern
ByRows Q r c = Entry Q c r

-- The numbers of a list are below 1,000, and their places can be marked.
abbrev pub Markable : (places l : List ℕ) → Type 0
Markable places l = (k : ℕ) → k < length l → (at l k < max_size) × (at places (at l k) < max_mark)

-- The set `q` is `p` with the places of the numbers of a list.
pub record WithPlaces (p q : ℕ → Bool) (place : ℕ → ℕ) (l : List ℕ) : Type 0 where
  pub are : (k : ℕ) → k < max_mark → T (q k) ↔ (T (p k) ⊎ ((x : ℕ) × T (has l x) × (place x ≡ k)))

-- The places before `t` have been swept: the set has c's place, places of reached columns only, and for each of its places before `t` the
-- places of all columns of the row there. `Q` has the columns of each row.
pub record Swept (m : ℕ) (Q : List (List ℕ)) (row col : ℕ → ℕ) (c t : ℕ) (p : ℕ → Bool) : Type 0 where
  pub reach : (k : ℕ) → k < m → T (p k) → Reach (ByRows Q) m row col c (col k)
  pub start : (place col m c < m) × T (p (place col m c))
  pub gone : (k : ℕ) → k < t → T (p k) → (y : ℕ) → T (has (column Q (row k)) y) → T (p (place col m y))

-- Whether the place that `f` gives a number is of the set, but for place `t`.
unfoldable pub stands_at : (ℕ → Bool) → (f : ℕ → ℕ) (t : ℕ) → ℕ → Bool
stands_at p f t x = p (f x) && not (eqb (f x) t)
