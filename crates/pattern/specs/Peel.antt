-- Peels: what may become a sound order, taken a place at a time from the first. Rests on Pattern.antt and Places.antt.
use Rattle.std.specs.Prelude.{List, ◌≡◌, ℕ, suc, ◌≤◌, ◌<◌, length}
use Rattle.pattern.specs.Pattern.{Pattern}
use Rattle.pattern.specs.Places.{at, Among, Outside, Once}

-- A peel of length `n`: the rows and the columns of the first `n` places. Each pair is an entry, and each row of column
-- `col i` is among the rows of the places up to `i`.
pub record Peel (E : Pattern) (m n : ℕ) (row col : ℕ → ℕ) : Type 0 where
  pub rows : Once row n m
  pub cols : Once col n m
  pub paired : (i : ℕ) → i < n → E (row i) (col i)
  pub passed : (i : ℕ) → i < n → (r : ℕ) → E r (col i) → Among row (suc i) r

-- After the first `n` places column `y` is available: it is not among them, and of its rows exactly one, `r`, is not.
pub record Available (E : Pattern) (m n : ℕ) (row col : ℕ → ℕ) (y r : ℕ) : Type 0 where
  pub col_below : y < m
  pub col_left : Outside col n y
  pub row_below : r < m
  pub row_left : Outside row n r
  pub present : E r y
  pub only : (s : ℕ) → E s y → Outside row n s → s ≡ r

-- A full peel that at each place takes an available column of the least key.
pub record Greedy (E : Pattern) (m : ℕ) (key row col : ℕ → ℕ) : Type 0 where
  pub peel : Peel E m m row col
  pub least : (i : ℕ) → i < m → (y r : ℕ) → Available E m i row col y r → key (col i) ≤ key y

-- The same of two lists of `m` numbers.
pub record Whole (E : Pattern) (m : ℕ) (key : ℕ → ℕ) (rows cols : List ℕ) : Type 0 where
  pub row_count : length rows ≡ m
  pub col_count : length cols ≡ m
  pub greedy : Greedy E m key (at rows) (at cols)
