-- What a judgment tells of a verdict, for the contracts of `judge` and `replace`. Rests on Reach.antt, `listing` and `register`.
use Rattle.std.specs.Prelude.{Bool, List, ◌≡◌, ℕ, ◌+◌, ◌-◌, ◌<◌, length}
use Rattle.pattern.specs.Places.{at}
use Rattle.pattern.specs.Rising.{Rising}
use Rattle.pattern.specs.Series.{greatest, numbers}
use Rattle.pattern.specs.Verdict.{Verdict, Singular, Permuted, Elimination, Judged}
use Rattle.listing.specs.Held.{over}
use Rattle.register.specs.Lent.{SoundLists}
use Rattle.register.specs.Order.{Placed}
use Rattle.judge.specs.Call.{Call, asked}
use Rattle.judge.specs.Reach.{stands_at}
use Rattle.judge.specs.declared.Judgment.{Judgment}
use Rattle.judge.specs.declared.Judgment.TheVariants as judgment

-- What may be judged: the register is sound, the column is one of it, and the new rows are in range and strictly rise.
pub record Judgeable (a : Call) : Type 0 where
  pub sound : SoundLists a.size a.lists
  pub column_below : a.column < a.size
  pub new_rise : Rising a.size a.new_rows

-- What is told of a verdict. PERMUTED: the place of each row and of each column in the new order. ELIMINATION: the bump, how
-- many eta rows there are, and these at the head of the eta list.
abbrev pub Tells : (a : Call) (row_places col_places eta' : List ℕ) → Judgment → Verdict → Type 0
Tells a row_places col_places eta' j Singular = (j ≡ judgment.Singular) × (eta' ≡ a.eta)
Tells a row_places col_places eta' j (Permuted rows cols) =
    (j ≡ judgment.Permuted) × (eta' ≡ a.eta) × Placed a.size (at rows) row_places × Placed a.size (at cols) col_places
Tells a row_places col_places eta' j (Elimination rows cols bump eta) = (j ≡ judgment.Elimination bump (length eta)) × (eta' ≡ over eta a.eta)

-- The right verdict is told.
pub record Judges (a : Call) (row_places col_places eta' : List ℕ) (j : Judgment) : Type 0 where
  pub verdict : Verdict
  pub right : Judged (asked a) verdict
  pub tells : Tells a row_places col_places eta' j verdict

-- ELIMINATION is told: the bump by the greatest place of a new row, and as eta rows those below `m` that have a reached place
-- other than `t`.
pub record BumpAndEta (m : ℕ) (places new : List ℕ) (t : ℕ) (reached : ℕ → Bool) (eta : List ℕ) (j : Judgment) (eta' : List ℕ) : Type 0 where
  pub told : j ≡ judgment.Elimination (greatest (at places) new - t + 1) (length (numbers (stands_at reached (at places) t) m))
  pub written : eta' ≡ over (numbers (stands_at reached (at places) t) m) eta
