-- Orders that pair rows with columns, and when an order and a register are sound. Rests on Pattern.antt, Places.antt and
-- Series.antt.
use Rattle.std.specs.Prelude.{List, ◌≡◌, ℕ, ◌≤◌, ◌<◌, length}
use Rattle.pattern.specs.Pattern.{Pattern, Entry, RowsBelow}
use Rattle.pattern.specs.Places.{at, Once}
use Rattle.pattern.specs.Series.{each}

-- A sound order of size `m`: place `t` pairs row `row t` with column `col t`. Each number below `m` stands once among the
-- rows and once among the columns, each pair is itself an entry, and an entry (row of place s, column of place t) has s at
-- most t. So every entry lies on or above the diagonal, and the diagonal is full.
pub record Sound (E : Pattern) (m : ℕ) (row col : ℕ → ℕ) : Type 0 where
  pub rows : Once row m m
  pub cols : Once col m m
  pub paired : (t : ℕ) → t < m → E (row t) (col t)
  pub upper : (s t : ℕ) → s < m → t < m → E (row s) (col t) → s ≤ t

-- The same of two lists of `m` numbers.
pub record SoundOrder (E : Pattern) (m : ℕ) (rows cols : List ℕ) : Type 0 where
  pub row_count : length rows ≡ m
  pub col_count : length cols ≡ m
  pub sound : Sound E m (at rows) (at cols)

-- A sound register: the rows of each column are in range, and the order is sound for the pattern that they make.
pub record SoundRegister (P : List (List ℕ)) (rows cols : List ℕ) : Type 0 where
  pub rows_below : RowsBelow (Entry P) (length P)
  pub order : SoundOrder (Entry P) (length P) rows cols

-- Some ordering of the rows with some ordering of the columns is sound.
abbrev pub Triangular : Pattern → ℕ → Type 0
Triangular E m = (row : ℕ → ℕ) × (col : ℕ → ℕ) × Sound E m row col

-- Row `r` and column `c` are a pair: they stand at one place of the order.
abbrev pub Paired : ℕ → (ℕ → ℕ) → (ℕ → ℕ) → ℕ → ℕ → Type 0
Paired m row col r c = (t : ℕ) × (t < m) × (row t ≡ r) × (col t ≡ c)

-- The pairs of the first `m` places of two lists.
abbrev pub pairs : ℕ → List ℕ → List ℕ → List (ℕ × ℕ)
pairs m rows cols = each (λ t. (at rows t, at cols t)) m
