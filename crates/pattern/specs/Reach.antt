-- Reach(c): where one can go from a column in the old pattern. Rests on Order.antt.
use Rattle.std.specs.Prelude.{◌≡◌, ℕ, ◌<◌}
use Rattle.pattern.specs.Order.{Paired}
use Rattle.pattern.specs.Pattern.{Pattern}

-- Column `x` is reached from `c`: it is `c`, or it is present in the row `r` that is paired with a reached column `w`.
pub data Reach (E : Pattern) (m : ℕ) (row col : ℕ → ℕ) (c : ℕ) : ℕ → Type 0 where
  itself : {x : ℕ} → x ≡ c → Reach E m row col c x
  onward : {x : ℕ} (w r : ℕ) → Reach E m row col c w → Paired m row col r w → x < m → E r x → Reach E m row col c x
