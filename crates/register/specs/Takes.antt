-- Six lent lists with room for a register, and how they hold one. Rests on Lent.antt and `listing`.
use Rattle.std.specs.Prelude.{List, ℕ, ◌≤◌, ◌<◌, length}
use Rattle.pattern.specs.Flat.{flat, starts_of}
use Rattle.pattern.specs.Turned.{turned}
use Rattle.listing.specs.Held.{over}
use Rattle.register.specs.Lent.{Lists, lists}

-- Six lent lists have room for a register of size `m` with so many entries.
pub record Takes (m total : ℕ) (l : Lists) : Type 0 where
  pub col_starts_fit : m < length l.col_starts
  pub col_rows_fit : total ≤ length l.col_rows
  pub row_starts_fit : m < length l.row_starts
  pub row_cols_fit : total ≤ length l.row_cols
  pub order_rows_fit : m ≤ length l.order_rows
  pub order_cols_fit : m ≤ length l.order_cols

-- They hold the columns `P` in both listings, and the order; past what these use, they hold what they held.
abbrev pub holding : (m : ℕ) (P : List (List ℕ)) (rows cols : List ℕ) → Lists → Lists
holding m P rows cols l =
    let Q = turned m P in
    lists (over (starts_of P) l.col_starts) (over (flat P) l.col_rows) (over (starts_of Q) l.row_starts) (over (flat Q) l.row_cols)
    (over rows l.order_rows) (over cols l.order_cols)
