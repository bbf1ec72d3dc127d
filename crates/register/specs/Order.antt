-- The places of an order's rows and columns in scratch lists, for the contracts of the steps of `order`. Rests on `pattern` and
-- `listing`.
use Rattle.std.specs.Prelude.{List, ◌≡◌, ℕ, ◌+◌, ◌<◌, length}
use Rattle.pattern.specs.Pattern.{column}
use Rattle.pattern.specs.Places.{at, Once, place}
use Rattle.pattern.specs.Series.{greatest}
use Rattle.listing.specs.Limits.{max_size}

-- `f 0 .. f (m - 1)` are each number below `m` once, and the list has the place of each.
pub record Placed (m : ℕ) (f : ℕ → ℕ) (places : List ℕ) : Type 0 where
  pub long : length places ≡ max_size
  pub once : Once f m m
  pub stand : (x : ℕ) → x < m → at places x ≡ place f m x

-- Column `c` may stand at place `t` of an order: it is in range and has rows, and the greatest place among them is `t`.
pub record Topped (m : ℕ) (places : List ℕ) (P : List (List ℕ)) (c t : ℕ) : Type 0 where
  pub below : c < m
  pub some : 0 < length (column P c)
  pub top : greatest (at places) (column P c) ≡ t

-- The list has the greatest place among the rows of each column before column `n`.
abbrev pub Tops : (n : ℕ) (places : List ℕ) (P : List (List ℕ)) (tops : List ℕ) → Type 0
Tops n places P tops = (c : ℕ) → c < n → at tops c ≡ greatest (at places) (column P c)

-- Column `c` may stand at place `t`, as the starts and such a list say it.
pub record AtTop (m : ℕ) (starts tops : List ℕ) (c t : ℕ) : Type 0 where
  pub below : c < m
  pub some : at starts c < at starts (c + 1)
  pub top : at tops c ≡ t

-- The places of an order's rows and columns are known, and a third list may be used for the work.
pub record PlacesKnown (m : ℕ) (row col : ℕ → ℕ) (work row_places col_places : List ℕ) : Type 0 where
  pub work_long : length work ≡ max_size
  pub rows_placed : Placed m row row_places
  pub cols_placed : Placed m col col_places
