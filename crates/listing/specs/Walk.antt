-- Walks through the columns with a cursor for each row, for the contracts of the steps of `same` and `turn`.
-- Rests on Listing.antt and `pattern`.
use Rattle.std.specs.Prelude.{List, ◌≡◌, ℕ, ◌+◌, ◌≤◌, ◌<◌, T, length}
use Rattle.pattern.specs.Pattern.{has}
use Rattle.pattern.specs.Places.{at}
use Rattle.pattern.specs.Series.{tally}
use Rattle.pattern.specs.Turned.{row_of}
use Rattle.listing.specs.Limits.{max_size}
use Rattle.listing.specs.Listing.{between, part}

-- Each row `r` has a cursor, which has gone on from the row's base by one place for each of the columns `seen r`.
pub record Cursors (m : ℕ) (base : ℕ → ℕ) (seen : ℕ → List ℕ) (next : List ℕ) : Type 0 where
  pub long : length next ≡ max_size
  pub stand : (r : ℕ) → r < m → at next r ≡ base r + length (seen r)

-- And in the list `cols` it has passed these columns, and none of another row's.
pub record Walked (m : ℕ) (base : ℕ → ℕ) (cols : List ℕ) (seen : ℕ → List ℕ) (next : List ℕ) : Type 0 where
  pub cursors : Cursors m base seen next
  pub in_row : (r : ℕ) → r < m → at next r ≤ base (r + 1)
  pub passed : (r : ℕ) → r < m → between (base r) (at next r) cols ≡ seen r

-- Each of a column's rows has that column, `j`, as the next that it lists: it stands at the row's cursor in the list `cols`.
abbrev pub AllNext : (cols : List ℕ) (j : ℕ) (rows next : List ℕ) → Type 0
AllNext cols j rows next = (r : ℕ) → T (has rows r) → (at next r < length cols) × (at cols (at next r) ≡ j)

-- And their cursors have gone past it, and no others.
pub record Past (cols : List ℕ) (j : ℕ) (rows next next' : List ℕ) : Type 0 where
  pub long : length next' ≡ max_size
  pub there : AllNext cols j rows next
  pub past : (r : ℕ) → T (has rows r) → at next' r ≡ at next r + 1
  pub still : (r : ℕ) → ¬ T (has rows r) → at next' r ≡ at next r

-- Each part of a row listing is the list of the columns that have the row.
abbrev pub RowsTurned : (m : ℕ) (P : List (List ℕ)) (starts cols : List ℕ) → Type 0
RowsTurned m P starts cols = (r : ℕ) → r < m → part starts cols r ≡ row_of P r m

-- A list keeps its length, and what it holds from place `n` on.
pub record Kept (n : ℕ) (old new : List ℕ) : Type 0 where
  pub long : length new ≡ length old
  pub rest : (q : ℕ) → n ≤ q → at new q ≡ at old q

-- The starts of parts that have these counts have been written, and each cursor stands at its start.
pub record Laid (m : ℕ) (counts starts next' starts' : List ℕ) : Type 0 where
  pub next_long : length next' ≡ max_size
  pub stand : (r : ℕ) → r < m → at next' r ≡ tally (at counts) r
  pub laid : (r : ℕ) → r < m + 1 → at starts' r ≡ tally (at counts) r
  pub kept : Kept (m + 1) starts starts'
