-- What stands in the lists that a caller lends, and that they are still the caller's own. Rests on Lent.antt.
use Rattle.std.specs.Prelude.{◌≡◌}
use Rattle.register.specs.Lent.{Lists, lists}
use Rattle.register.specs.declared.lent.Lent.{Lent}
use Rattle.register.specs.declared.lent.LentMut.{LentMut}

-- What stands in lists that are lent to be read, and to be written.
abbrev pub seen : Lent → Lists
seen l = lists l.columns.starts.now l.columns.entries.now l.rows.starts.now l.rows.entries.now l.order_rows.now l.order_cols.now

abbrev pub held : LentMut → Lists
held l = lists l.col_starts.now l.col_rows.now l.row_starts.now l.row_cols.now l.order_rows.now l.order_cols.now

-- No list has been exchanged for another: what was written was written to the caller's.
pub record SameLists (old new : LentMut) : Type 0 where
  pub col_starts : new.col_starts.ghost_name ≡ old.col_starts.ghost_name
  pub col_rows : new.col_rows.ghost_name ≡ old.col_rows.ghost_name
  pub row_starts : new.row_starts.ghost_name ≡ old.row_starts.ghost_name
  pub row_cols : new.row_cols.ghost_name ≡ old.row_cols.ghost_name
  pub order_rows : new.order_rows.ghost_name ≡ old.order_rows.ghost_name
  pub order_cols : new.order_cols.ghost_name ≡ old.order_cols.ghost_name
