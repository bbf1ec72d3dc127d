-- Patterns and their entries, and the two changes that a replacement makes to one. Rests on nothing.
use Rattle.std.specs.Prelude.{Bool, false, ◌||◌, List, [], ◌∷◌, ◌≢◌, ◌↔◌, ◌≡◌, ℕ, ◌<◌, T, eqb, get_or}

-- A pattern says of a row `r` and a column `c` whether `(r, c)` is an entry. The theorems hold of any such relation.
abbrev pub Pattern : Type 1
Pattern = ℕ → ℕ → Type 0

-- The number `r` stands in a list: a test that computes.
abbrev pub has : List ℕ → ℕ → Bool
has [] r = false
has (x ∷ l) r = eqb x r || has l r

-- The rows of column `c`, where the rows of each column are listed; none past the last column.
abbrev pub column : List (List ℕ) → ℕ → List ℕ
column P c = get_or P c []

-- The pattern that the rows of each column make: `(r, c)` is an entry where row `r` stands in column `c`.
abbrev pub Entry : List (List ℕ) → Pattern
Entry P r c = T (has (column P c) r)

-- Every entry's row is below `m`.
abbrev pub RowsBelow : Pattern → ℕ → Type 0
RowsBelow E m = (r c : ℕ) → E r c → r < m

-- `E'` is the spiked pattern: `E` with the rows of column `c` exchanged for those of which `New` holds.
pub record Spiked (E E' : Pattern) (c : ℕ) (New : ℕ → Type 0) : Type 0 where
  pub others : (r y : ℕ) → y ≢ c → E r y ↔ E' r y
  pub changed : (r : ℕ) → E' r c ↔ New r

-- `E''` is `E'` with row `r` cleared and then given the single entry `(r, c)`.
pub record Cleared (E' E'' : Pattern) (r c : ℕ) : Type 0 where
  pub given : E'' r c
  pub alone : (y : ℕ) → E'' r y → y ≡ c
  pub others : (s y : ℕ) → s ≢ r → E' s y ↔ E'' s y
