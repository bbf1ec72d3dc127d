-- Choices of entries, one in each row and each column. Rests on Pattern.antt and Places.antt.
use Rattle.std.specs.Prelude.{ℕ, ◌<◌}
use Rattle.pattern.specs.Pattern.{Pattern}
use Rattle.pattern.specs.Places.{Once}

-- A full choice: `σ c` is the row chosen in column `c`. It takes one entry in each column and no row twice, and so one in
-- each row.
pub record Choice (E : Pattern) (m : ℕ) (σ : ℕ → ℕ) : Type 0 where
  pub rows : Once σ m m
  pub chosen : (c : ℕ) → c < m → E (σ c) c

-- No choice takes one entry in each row and each column.
abbrev pub NoChoice : Pattern → ℕ → Type 0
NoChoice E m = (σ : ℕ → ℕ) → ¬ Choice E m σ
