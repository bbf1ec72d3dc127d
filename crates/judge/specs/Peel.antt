-- The peel of the spiked pattern in scratch lists, for the contracts of the steps of `peel`. Rests on Sets.antt, `listing` and
-- `register`.
use Rattle.std.specs.Prelude.{Option, Some, None, cond, List, ◌≢◌, ◌↔◌, ◌≡◌, ℕ, ◌+◌, ◌≤◌, ◌<◌, max, T, eqb, leb, length, set}
use Rattle.pattern.specs.Pattern.{has, Entry}
use Rattle.pattern.specs.Peel.{Whole}
use Rattle.pattern.specs.Places.{at, place}
use Rattle.pattern.specs.Series.{greatest}
use Rattle.listing.specs.Limits.{max_size}
use Rattle.listing.specs.Listing.{part, parts}
use Rattle.register.specs.Order.{Placed}
use Rattle.judge.specs.Sets.{counted}

-- The columns of a listing with column `c`'s rows exchanged for the new rows.
abbrev pub spiked : (m : ℕ) (starts entries : List ℕ) (c : ℕ) (new : List ℕ) → List (List ℕ)
spiked m starts entries c new = set (parts m starts entries) c new

-- Its column `y`, read off the lists.
abbrev pub spiked_part : (starts entries : List ℕ) (c : ℕ) (new : List ℕ) (y : ℕ) → List ℕ
spiked_part starts entries c new y = cond (eqb y c) new (part starts entries y)

-- How many numbers of a list have no place; `max_size` or more is no place.
abbrev pub unplaced : (places l : List ℕ) → ℕ
unplaced places l = counted (λ k. leb max_size (at places (at l k))) (length l)

-- The numbers of a list are below `max_size`.
abbrev pub RowsLow : (l : List ℕ) → Type 0
RowsLow l = (k : ℕ) → k < length l → at l k < max_size

-- Where the window of the places that can change, which begins at `p`, ends: at the place after `p` and after those of all new
-- rows.
abbrev pub window_end : (places new : List ℕ) (p : ℕ) → ℕ
window_end places new p = max p (greatest (at places) new) + 1

-- `f p .. f (e - 1)` have no place any more, and no other number's has changed.
pub record Freed (f : ℕ → ℕ) (p e : ℕ) (places places' : List ℕ) : Type 0 where
  pub long : length places' ≡ max_size
  pub freed : (t : ℕ) → p ≤ t → t < e → at places' (f t) ≡ max_size
  pub kept : (x : ℕ) → ((t : ℕ) → p ≤ t → t < e → f t ≢ x) → at places' x ≡ at places x

-- Of the numbers for which `max_size` stood, and so no place, those of the list `new`, and no others, are told by `max_size + 1`.
-- No place has changed.
pub record Flagged (new places places' : List ℕ) : Type 0 where
  pub long : length places' ≡ max_size
  pub kept : (x : ℕ) → x < max_size → at places x < max_size → at places' x ≡ at places x
  pub left : (x : ℕ) → x < max_size → at places x ≡ max_size → max_size ≤ at places' x
  pub told : (x : ℕ) → x < max_size → at places x ≡ max_size → (at places' x ≡ max_size + 1) ↔ T (has new x)

-- The numbers of a list are in range, and some has no place.
pub record SomeLeft (places l : List ℕ) : Type 0 where
  pub below : RowsLow l
  pub some : 0 < unplaced places l

-- `x` stands in a list and has no place.
pub record IsLeft (places l : List ℕ) (x : ℕ) : Type 0 where
  pub there : T (has l x)
  pub nowhere : max_size ≤ at places x

-- For each place from `p` up to `e` how many rows of its column have no place.
pub record Counted (rows : ℕ → List ℕ) (places : List ℕ) (p e : ℕ) (counts : List ℕ) : Type 0 where
  pub long : length counts ≡ max_size
  pub stand : (t : ℕ) → p ≤ t → t < e → at counts t ≡ unplaced places (rows t)

-- From `p` up to `t` no place has a count of one.
pub record Searched (counts : List ℕ) (p t : ℕ) : Type 0 where
  pub after : p ≤ t
  pub none : (u : ℕ) → p ≤ u → u < t → at counts u ≢ 1

-- It is the first place from `from` up to `e` that has a count of one; or there is none.
abbrev pub NextOne : (e : ℕ) (counts : List ℕ) (from : ℕ) → Option ℕ → Type 0
NextOne e counts from (Some t) = Searched counts from t × (t < e) × (at counts t ≡ 1)
NextOne e counts from None = Searched counts from e

-- Number `i` of a list of columns is not `c`, and its old place is before `e`.
abbrev pub Hit : (cols : List ℕ) (c e : ℕ) (old : List ℕ) (i : ℕ) → Type 0
Hit cols c e old i = (at cols i ≢ c) × (at old (at cols i) < e)

-- The old places of such columns are `p` or later.
abbrev pub HitsFrom : (p : ℕ) (cols : List ℕ) (c e : ℕ) (old : List ℕ) → Type 0
HitsFrom p cols c e old = (i : ℕ) → i < length cols → Hit cols c e old i → p ≤ at old (at cols i)

-- They are different, and each has a count to lower.
pub record Strikes (cols : List ℕ) (c e : ℕ) (old counts : List ℕ) : Type 0 where
  pub long : length counts ≡ max_size
  pub small : e ≤ max_size
  pub below : RowsLow cols
  pub apart : (i j : ℕ) → i < length cols → j < length cols → Hit cols c e old i → Hit cols c e old j → at old (at cols i) ≡ at old (at cols j) → i ≡ j
  pub some : (i : ℕ) → i < length cols → Hit cols c e old i → 0 < at counts (at old (at cols i))

-- The counts of such columns among the first `k` of the list are one less, and no others have changed.
pub record Struck (cols : List ℕ) (c e : ℕ) (old counts : List ℕ) (k : ℕ) (counts' : List ℕ) : Type 0 where
  pub long : length counts' ≡ max_size
  pub less : (i : ℕ) → i < k → Hit cols c e old i → at counts (at old (at cols i)) ≡ at counts' (at old (at cols i)) + 1
  pub others : (t : ℕ) → ((i : ℕ) → i < k → Hit cols c e old i → at old (at cols i) ≢ t) → at counts' t ≡ at counts t

-- A whole peel by the places of `col` has been found, and the lists have the place of each of its rows and columns.
pub record Peeled (m : ℕ) (P : List (List ℕ)) (col : ℕ → ℕ) (row_places col_places : List ℕ) : Type 0 where
  pub rows : List ℕ
  pub cols : List ℕ
  pub whole : Whole (Entry P) m (place col m) rows cols
  pub rows_placed : Placed m (at rows) row_places
  pub cols_placed : Placed m (at cols) col_places
