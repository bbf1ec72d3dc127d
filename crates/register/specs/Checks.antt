-- The build paper's checks, in the order of their numbers: 1 to 5 of a register, and 1 to 8 of a replacement.
-- Rests on Lent.antt and `pattern`.
use Rattle.std.specs.Prelude.{List, ◌≡◌, ℕ, ◌≤◌, length}
use Rattle.pattern.specs.Ladder.{Unless}
use Rattle.listing.specs.Limits.{Sized, max_total}
use Rattle.register.specs.Lent.{Lists, Long, Formed, ListingsAgree, OrderSound}

-- ---- Of a register

module _ {A : Type 0} (m : ℕ) (l : Lists) (refused : ℕ → A) (rest : A → Type 0) where
  -- Checks 3 to 5, of what the lists hold: a call is refused with the number of the first that fails, `refused` being the
  -- outcome of a refusal by its number; where none does, the rest decides.
  abbrev pub Contents : A → Type 0
  Contents =
      Unless (Formed m l) (refused 3)
      (Unless (ListingsAgree m l) (refused 4)
      (Unless (OrderSound m l) (refused 5)
      rest))

  -- Checks 1 to 5.
  abbrev pub Checks : A → Type 0
  Checks =
      Unless (Sized m) (refused 1)
      (Unless (Long m l) (refused 2)
      Contents)

-- The number of a register's first fault, or 0.
abbrev pub FirstFault : ℕ → Lists → ℕ → Type 0
FirstFault m l = Checks m l (λ n. n) (λ n. n ≡ 0)

-- ---- Of a replacement

-- A total is at most 12,000, and each entry list has as many places.
pub record Fits (total : ℕ) (col_rows row_cols : List ℕ) : Type 0 where
  pub few : total ≤ max_total
  pub in_columns : total ≤ length col_rows
  pub in_rows : total ≤ length row_cols
