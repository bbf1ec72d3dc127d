-- Lists of rows as the build paper wants them: in range and strictly rising. Rests on Places.antt.
use Rattle.std.specs.Prelude.{List, ℕ, suc, ◌<◌, length}
use Rattle.pattern.specs.Places.{at}

-- Every number of the list is below `m`, and below the next one.
pub record Rising (m : ℕ) (l : List ℕ) : Type 0 where
  pub below : (i : ℕ) → i < length l → at l i < m
  pub rises : (i : ℕ) → suc i < length l → at l i < at l (suc i)
