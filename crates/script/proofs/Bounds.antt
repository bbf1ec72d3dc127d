-- For programs: no call takes more bytes than it is given, or writes more than the output list has places. Rests on
-- specs/Feed.antt, `replies` and `turns`.
use mathlib.Core.List.{List}
use mathlib.Core.Path.{ap}
use Prim.Native.Nat.{ℕ, ◌≤◌}
use native.Mathlib.Omega.{arith}
use lib.ListN.{length}
use Rattle.pattern.specs.Ladder.{fails, holds}
use Rattle.replies.proofs.Showing.{over_new_long}
use Rattle.turns.specs.Turns.{Run}
use Rattle.turns.specs.declared.State.{State}
use Rattle.script.specs.Feed.{FedOut, Feeds, Finishes}
use Rattle.script.specs.Tryout.{closing}

module _ {r : Run} {chunk out : List ℕ} {o : FedOut} where
  pub feeds_taken : Feeds r chunk out o → o.taken ≤ length chunk
  feeds_taken (fails n e) = omega (arith, ap (λ (o : FedOut). o.taken) e)
  feeds_taken (holds p x) = x.1.within

  pub feeds_written : Feeds r chunk out o → o.written ≤ length o.out
  feeds_written (fails n e) = omega (arith, ap (λ (o : FedOut). o.written) e)
  feeds_written (holds p x) =
      omega (arith, ap (λ (o : FedOut). o.written) x.2, ap (λ (o : FedOut). length o.out) x.2, over_new_long x.0.said out)

pub finishes_written : (s : State) {out : List ℕ} {o : ℕ × List ℕ} → Finishes s out o → o.0 ≤ length o.1
finishes_written s (fails n e) = omega (arith, ap (λ (o : ℕ × List ℕ). o.0) e)
finishes_written s {out} (holds p e) = omega (arith, ap (λ (o : ℕ × List ℕ). o.0) e, ap (λ (o : ℕ × List ℕ). length o.1) e, over_new_long (closing s) out)
