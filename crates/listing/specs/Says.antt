-- What a test's answer says. Rests on nothing.
use Rattle.std.specs.Prelude.{Bool, true, false, ◌≡◌}

-- `P` holds where the answer is true, and `Q` where it is false.
pub record Told (answer : Bool) (P Q : Type 0) : Type 0 where
  pub yes : answer ≡ true → P
  pub no : answer ≡ false → Q

-- The answer is true exactly when `P` holds.
abbrev pub Says : Bool → Type 0 → Type 0
Says answer P = Told answer P (¬ P)
