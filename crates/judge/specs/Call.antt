-- What a call asks. Rests on `pattern` and `register`.
use Rattle.std.specs.Prelude.{List, ℕ, take}
use Rattle.pattern.specs.Verdict.{Replacement}
use Rattle.register.specs.Lent.{Lists, columns}

-- What is asked: column `column` of the register in the lists is to be replaced by the new rows; and the eta list.
pub record Call : Type 0 where
  pub size : ℕ
  pub lists : Lists
  pub column : ℕ
  pub new_rows : List ℕ
  pub eta : List ℕ

abbrev pub call : ℕ → Lists → ℕ → List ℕ → List ℕ → Call
call m l c new eta = record { size = m; lists = l; column = c; new_rows = new; eta = eta }

-- The replacement that is asked for, on the pattern of the columns.
abbrev pub asked : Call → Replacement
asked a =
    record {
      columns = columns a.size a.lists;
      order_rows = take a.size a.lists.order_rows;
      order_cols = take a.size a.lists.order_cols;
      replaced = a.column;
      new_rows = a.new_rows;
    }
