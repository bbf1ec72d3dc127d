-- A replacement's ladder of checks: from a fault by its number to a refusal, and from no fault to what is taken. Rests on
-- specs/Replace.antt, specs/ReplaceChecks.antt, `pattern`, `register` and `judge`.
use mathlib.Core.Logic.{◌≢◌}
use mathlib.Core.Path.{◌≡◌, ap}
use Prim.Native.Nat.{ℕ, ◌≤◌}
use lib.ListN.{length}
use Rattle.pattern.specs.Ladder.{holds}
use Rattle.pattern.proofs.Rungs.{unless_map}
use Rattle.register.specs.Lent.{SoundLists}
use Rattle.judge.specs.Call.{Call}
use Rattle.replace.specs.ReplaceChecks.{ColumnChecks, CallFault}
use Rattle.replace.specs.Replace.{refusal, Replaces}

module _ (a : Call) where
  -- Where it has none, the new column decides.
  pub column_fault : {n : ℕ} → SoundLists a.size a.lists → a.size ≤ length a.eta
      → ColumnChecks a.size a.column a.new_rows a.lists.col_starts a.lists.col_rows a.lists.row_cols (λ k. k) (λ k. k ≡ 0) n → CallFault a n
  column_fault s h r = holds s.sized (holds (s.long, h) (holds s.formed (holds s.agree (holds s.order r))))

  by : {n k : ℕ} → n ≡ k → refusal a n ≡ refusal a k
  by = ap (refusal a)

  -- A fault is refused by its number.
  pub refused_call : {n : ℕ} → n ≢ 0 → CallFault a n → Replaces a (refusal a n)
  refused_call none =
      unless_map by (unless_map by (unless_map by (unless_map by (unless_map by (unless_map by (unless_map by (unless_map by (λ e. absurd (none e)))))))))
