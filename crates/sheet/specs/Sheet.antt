-- The sheet of a register. Rests on Number.antt, `pattern`, `listing`, `text` and `register`.
use Rattle.std.specs.Prelude.{List, ◌++◌, map, ℕ, ◌+◌, ◌-◌, length}
use Rattle.pattern.specs.Flat.{flat}
use Rattle.pattern.specs.Order.{Sound, pairs}
use Rattle.pattern.specs.Pattern.{Entry}
use Rattle.pattern.specs.Places.{at}
use Rattle.listing.specs.declared.formed.Formed.{Formed}
use Rattle.listing.specs.Listing.{parts}
use Rattle.text.specs.Series.{series}
use Rattle.register.specs.Takes.{holding}
use Rattle.register.specs.Lent.{Lists}
use Rattle.sheet.specs.Number.{groups}

-- ---- What a register and its sheet both say

-- The size, the rows of each column, and for each place its row and its column.
pub record Record : Type 0 where
  pub size : ℕ
  pub columns : List (List ℕ)
  pub order : List (ℕ × ℕ)

-- Of pairs the rows and the columns.
abbrev pub firsts : List (ℕ × ℕ) → List ℕ
firsts = map (λ (p : ℕ × ℕ). p.0)

abbrev pub seconds : List (ℕ × ℕ) → List ℕ
seconds = map (λ (p : ℕ × ℕ). p.1)

-- What a register of size `m` says in a column listing and the two lists of its order.
abbrev pub record_in : (m : ℕ) (col_starts col_rows order_rows order_cols : List ℕ) → Record
record_in m cs cr or oc = record { size = m; columns = parts m cs cr; order = pairs m or oc }

-- The same of a column listing that may be read.
abbrev pub record_with : Formed → (order_rows order_cols : List ℕ) → Record
record_with columns or oc = record_in columns.size columns.listed.starts.now columns.listed.entries.now or oc

-- The same of its six lists; the row listing says nothing more.
abbrev pub record_of : ℕ → Lists → Record
record_of m l = record_in m l.col_starts l.col_rows l.order_rows l.order_cols

module _ (x : Record) where
  -- The number of entries.
  abbrev pub total : ℕ
  total = length (flat x.columns)

  -- The order is sound for the pattern.
  abbrev pub SoundRecord : Type 0
  SoundRecord = Sound (Entry x.columns) x.size (at (firsts x.order)) (at (seconds x.order))

-- What lent lists are that hold it: both listings, the order, and past these what the lists held.
abbrev pub held_record : Record → Lists → Lists
held_record x = holding x.size x.columns (firsts x.order) (seconds x.order)

-- ---- Its bytes

-- At a row, the least that it can be: 0 at the first, and then one more than the row before.
abbrev pub past : ℕ → ℕ → ℕ
past least r = r + 1

-- At a column, how many entries the columns before it have.
abbrev pub grown : ℕ → List ℕ → ℕ
grown entries rows = entries + length rows

-- At a pair, its place.
abbrev pub counted : ℕ → ℕ × ℕ → ℕ
counted t pair = t + 1

-- A row is written as its distance from the least that it can be: the first row itself, and then the gap to the row before
-- less 1.
abbrev pub row_bytes : ℕ → ℕ → List ℕ
row_bytes least r = groups (r - least)

-- All rows of a column.
abbrev pub rows_bytes : List ℕ → List ℕ
rows_bytes = series row_bytes past 0

-- A column: its count and its rows.
abbrev pub column_bytes : ℕ → List ℕ → List ℕ
column_bytes entries rows = groups (length rows) ++ rows_bytes rows

-- All columns.
abbrev pub columns_bytes : List (List ℕ) → List ℕ
columns_bytes = series column_bytes grown 0

-- A place: its row and its column.
abbrev pub pair_bytes : ℕ → ℕ × ℕ → List ℕ
pair_bytes t pair = groups pair.0 ++ groups pair.1

-- All places.
abbrev pub order_bytes : List (ℕ × ℕ) → List ℕ
order_bytes = series pair_bytes counted 0

-- The sheet: the size, the columns, the order.
abbrev pub sheet : Record → List ℕ
sheet x = groups x.size ++ (columns_bytes x.columns ++ order_bytes x.order)
