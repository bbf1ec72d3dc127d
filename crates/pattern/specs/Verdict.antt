-- What a replacement of one column is to be answered, over all choices and all orders: the third condition, with the order,
-- the bump and the eta rows of the build paper. Rests on all the other files here but Peel.antt, Ladder.antt,
-- Flat.antt and Turned.antt.
use Rattle.std.specs.Prelude.{cond, List, [], ◌∷◌, ◌++◌, ◌≢◌, ◌↔◌, ◌≡◌, ℕ, suc, ◌+◌, ◌-◌, ◌<◌, T, eqb, length, set, take, drop}
use Rattle.pattern.specs.Choice.{NoChoice}
use Rattle.pattern.specs.Dictionary.{Leading}
use Rattle.pattern.specs.Order.{SoundRegister, Triangular, Paired}
use Rattle.pattern.specs.Pattern.{Pattern, has, column, Entry}
use Rattle.pattern.specs.Places.{at, place}
use Rattle.pattern.specs.Series.{each, numbers, greatest}
use Rattle.pattern.specs.Reach.{Reach}
use Rattle.pattern.specs.Rising.{Rising}

-- ---- What is asked

-- A replacement: the rows of each column, the order's rows and its columns, the column to replace, and its new rows.
pub record Replacement : Type 0 where
  pub columns : List (List ℕ)
  pub order_rows : List ℕ
  pub order_cols : List ℕ
  pub replaced : ℕ
  pub new_rows : List ℕ

module _ (a : Replacement) where
  abbrev pub size : ℕ
  size = length a.columns

  -- The row and the column of each place of the old order.
  abbrev pub row_at : ℕ → ℕ
  row_at = at a.order_rows

  abbrev pub col_at : ℕ → ℕ
  col_at = at a.order_cols

  -- The old place of a column, that of c, and the row r that is paired with c.
  abbrev pub old_place : ℕ → ℕ
  old_place = place col_at size

  abbrev pub c_place : ℕ
  c_place = old_place a.replaced

  abbrev pub c_row : ℕ
  c_row = row_at c_place

  -- The old pattern; and the spiked one: column c's rows are exchanged for the new rows.
  abbrev pub Old : Pattern
  Old = Entry a.columns

  abbrev pub spiked_columns : List (List ℕ)
  spiked_columns = set a.columns a.replaced a.new_rows

  abbrev pub Spike : Pattern
  Spike = Entry spiked_columns

  -- The spiked pattern with row r cleared and then given the single entry (r, c): row s stands in column y where it is r and y
  -- is c, or where it is another row and stood there.
  abbrev pub cleared_columns : List (List ℕ)
  cleared_columns = each (λ y. numbers (λ s. cond (eqb s c_row) (eqb y a.replaced) (has (column spiked_columns y) s)) size) size

  -- What may be judged: the register is sound, the column is one of it, and the new rows are in range and strictly rise.
  pub record Taken : Type 0 where
    pub register : SoundRegister a.columns a.order_rows a.order_cols
    pub column_below : a.replaced < size
    pub new_rise : Rising size a.new_rows

-- ---- What is answered

-- The three verdicts: PERMUTED with the new order's rows and columns, ELIMINATION with these, the bump and the eta rows.
pub data Verdict : Type 0 where
  Singular : Verdict
  Permuted : (rows cols : List ℕ) → Verdict
  Elimination : (rows cols : List ℕ) (bump : ℕ) (eta : List ℕ) → Verdict

-- What stands at place `t` of a list goes to the last place, and the others keep their order.
unfoldable pub to_last : ℕ → List ℕ → List ℕ
to_last t l = take t l ++ drop (suc t) l ++ (at l t ∷ [])

-- The greatest place among `row 0 .. row (m - 1)` of a number of the list.
abbrev pub top_place : (ℕ → ℕ) → ℕ → List ℕ → ℕ
top_place row m l = greatest (place row m) l

module _ (a : Replacement) where
  -- PERMUTED: of the sound orders this is the first when its columns are read as their old places.
  pub record IsPermuted (rows cols : List ℕ) : Type 0 where
    pub row_count : length rows ≡ size a
    pub col_count : length cols ≡ size a
    pub leading : Leading (Spike a) (size a) (old_place a) (at rows) (at cols)

  -- `r` is an eta row: it was paired with a reached column other than c.
  abbrev pub Eta : ℕ → Type 0
  Eta r =
      (x : ℕ)
      × Reach (Old a) (size a) (row_at a) (col_at a) a.replaced x
      × (x ≢ a.replaced)
      × Paired (size a) (row_at a) (col_at a) r x

  -- ELIMINATION: there is a full choice and no sound order. The pair of c goes to the last place. The bump is the greatest
  -- old place of a new row, less the old place of c, plus 1. The eta rows strictly rise.
  pub record IsElimination (rows cols : List ℕ) (bump : ℕ) (eta : List ℕ) : Type 0 where
    pub not_singular : ¬ NoChoice (Spike a) (size a)
    pub not_permuted : ¬ Triangular (Spike a) (size a)
    pub rows_after : rows ≡ to_last (c_place a) a.order_rows
    pub cols_after : cols ≡ to_last (c_place a) a.order_cols
    pub bump_is : bump ≡ top_place (row_at a) (size a) a.new_rows - c_place a + 1
    pub eta_rises : Rising (size a) eta
    pub eta_are : (r : ℕ) → T (has eta r) ↔ Eta r

  -- The verdict is right. SINGULAR: no choice of entries takes one in each row and each column.
  abbrev pub Judged : Verdict → Type 0
  Judged Singular = NoChoice (Spike a) (size a)
  Judged (Permuted rows cols) = IsPermuted rows cols
  Judged (Elimination rows cols bump eta) = IsElimination rows cols bump eta
