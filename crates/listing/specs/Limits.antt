-- The build paper's limits. Rests on nothing.
use Rattle.std.specs.Prelude.{ℕ, ◌≤◌}

-- The greatest size, and the greatest number of entries.
abbrev pub max_size : ℕ
max_size = 1000

abbrev pub max_total : ℕ
max_total = 12000

-- Marks are for the numbers below 1,024: every column has one, and so will the bits of sixteen words.
abbrev pub max_mark : ℕ
max_mark = 1024

-- The size is 1 to 1,000.
abbrev pub Sized : ℕ → Type 0
Sized m = (1 ≤ m) × (m ≤ max_size)
