-- A register in lent lists, perhaps longer than needed: what is read off them, and when it is sound. Rests on `pattern` and
-- `listing`.
use Rattle.std.specs.Prelude.{List, ◌≡◌, ℕ, ◌≤◌, ◌<◌, length}
use Rattle.pattern.specs.Order.{Sound}
use Rattle.pattern.specs.Pattern.{Entry}
use Rattle.pattern.specs.Places.{at}
use Rattle.pattern.specs.Turned.{SameEntries}
use Rattle.listing.specs.Limits.{max_size, Sized}
use Rattle.listing.specs.Listing.{parts, Room, Listing}

-- The six lent lists: the starts and rows of the column listing, the starts and columns of the row listing, and the order's
-- rows and columns.
pub record Lists : Type 0 where
  pub col_starts : List ℕ
  pub col_rows : List ℕ
  pub row_starts : List ℕ
  pub row_cols : List ℕ
  pub order_rows : List ℕ
  pub order_cols : List ℕ

abbrev pub lists : (col_starts col_rows row_starts row_cols order_rows order_cols : List ℕ) → Lists
lists cs cr rs rc or oc =
    record { col_starts = cs; col_rows = cr; row_starts = rs; row_cols = rc; order_rows = or; order_cols = oc }

-- The rows, and likewise the columns, of the order that pairs row t with column t, for every size: each place holds its own
-- number.
pub record Fresh (order : List ℕ) : Type 0 where
  pub long : length order ≡ max_size
  pub own : (t : ℕ) → t < max_size → at order t ≡ t

module _ (m : ℕ) (l : Lists) where
  -- The rows of each column, and the columns of each row.
  abbrev pub columns : List (List ℕ)
  columns = parts m l.col_starts l.col_rows

  abbrev pub rows : List (List ℕ)
  rows = parts m l.row_starts l.row_cols

  -- Every list is long enough for a register of size `m`.
  pub record Long : Type 0 where
    pub columns_fit : Room m l.col_starts l.col_rows
    pub rows_fit : Room m l.row_starts l.row_cols
    pub order_rows_fit : m ≤ length l.order_rows
    pub order_cols_fit : m ≤ length l.order_cols

  -- Both listings are well formed.
  pub record Formed : Type 0 where
    pub columns_formed : Listing m l.col_starts l.col_rows
    pub rows_formed : Listing m l.row_starts l.row_cols

  -- Both list the same set of entries.
  abbrev pub ListingsAgree : Type 0
  ListingsAgree = SameEntries columns rows

  -- The order is sound for the pattern that the columns make.
  abbrev pub OrderSound : Type 0
  OrderSound = Sound (Entry columns) m (at l.order_rows) (at l.order_cols)

  -- A sound register: all of these.
  pub record SoundLists : Type 0 where
    pub sized : Sized m
    pub long : Long
    pub formed : Formed
    pub agree : ListingsAgree
    pub order : OrderSound
