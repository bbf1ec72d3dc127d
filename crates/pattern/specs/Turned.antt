-- A pattern turned: the columns that each row stands in. Rests on Pattern.antt and Series.antt.
use Rattle.std.specs.Prelude.{List, ◌↔◌, ℕ}
use Rattle.pattern.specs.Pattern.{has, column, Entry}
use Rattle.pattern.specs.Series.{each, numbers}

-- The columns below `n` that have row `r`, in rising order.
abbrev pub row_of : List (List ℕ) → ℕ → ℕ → List ℕ
row_of P r n = numbers (λ c. has (column P c) r) n

-- The columns of each of the `m` rows of a pattern of size `m`.
abbrev pub turned : ℕ → List (List ℕ) → List (List ℕ)
turned m P = each (λ r. row_of P r m) m

-- `Q` lists by rows what `P` lists by columns: row `r` stands in column `c` exactly when column `c` stands in row `r`.
abbrev pub SameEntries : List (List ℕ) → List (List ℕ) → Type 0
SameEntries P Q = (r c : ℕ) → Entry P r c ↔ Entry Q c r
