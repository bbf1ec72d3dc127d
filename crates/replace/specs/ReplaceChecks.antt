-- The checks of a replacement, 1 to 8. Rests on `pattern`, `listing`, `register` and `judge`.
use Rattle.std.specs.Prelude.{List, ◌≡◌, ℕ, ◌+◌, ◌-◌, ◌≤◌, ◌<◌, length}
use Rattle.pattern.specs.Ladder.{Unless}
use Rattle.pattern.specs.Places.{at}
use Rattle.pattern.specs.Rising.{Rising}
use Rattle.listing.specs.Limits.{Sized}
use Rattle.register.specs.Lent.{Long}
use Rattle.register.specs.Checks.{Contents, Fits}
use Rattle.judge.specs.Call.{Call}

-- The total with `n` new rows in the stead of column `c`'s, before any row is cleared.
abbrev pub new_total : (m : ℕ) (starts : List ℕ) (c n : ℕ) → ℕ
new_total m starts c n = at starts m - (at starts (c + 1) - at starts c) + n

-- There is room for the new column.
abbrev pub NewFits : Call → Type 0
NewFits a = Fits (new_total a.size a.lists.col_starts a.column (length a.new_rows)) a.lists.col_rows a.lists.row_cols

-- Checks 6 to 8, of the new column.
abbrev pub ColumnChecks : {A : Type 0} (m c : ℕ) (new starts col_rows row_cols : List ℕ) (refused : ℕ → A) (rest : A → Type 0) → A → Type 0
ColumnChecks m c new starts col_rows row_cols refused rest =
    Unless (c < m) (refused 6)
    (Unless (Rising m new) (refused 7)
    (Unless (Fits (new_total m starts c (length new)) col_rows row_cols) (refused 8)
    rest))

-- Checks 1 to 8; in 2 the eta list is one of the lists.
abbrev pub CallChecks : {A : Type 0} (a : Call) (refused : ℕ → A) (rest : A → Type 0) → A → Type 0
CallChecks a refused rest =
    let l = a.lists in
    Unless (Sized a.size) (refused 1)
    (Unless (Long a.size l × (a.size ≤ length a.eta)) (refused 2)
    (Contents a.size l refused
    (ColumnChecks a.size a.column a.new_rows l.col_starts l.col_rows l.row_cols refused rest)))

-- The number of a call's first fault, or 0.
abbrev pub CallFault : Call → ℕ → Type 0
CallFault a = CallChecks a (λ n. n) (λ n. n ≡ 0)
