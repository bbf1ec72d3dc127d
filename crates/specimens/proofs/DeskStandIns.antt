-- Stand-ins for a desk that works on lent lists, each of which fails the statement on one call. Rests on Called.antt and StandIns.antt.
use mathlib.Core.List.{List}
use mathlib.Core.Logic.{◌≢◌}
use mathlib.Core.Path.{◌≡◌, ap}
use Prim.Native.Nat.{ℕ, ◌<◌}
use native.Mathlib.Omega.{arith}
use lib.Dec.{lit<}
use lib.ListN.{length, get_or}
use Rattle.pattern.specs.Places.{at}
use Rattle.register.specs.Lent.{Lists}
use Rattle.replace.specs.Replace.{Outcome, outcome, Replaces}
use Rattle.replace.specs.Reply.{Reply, refused, elimination}
use Rattle.replace.proofs.Determined.{outcome_one}
use Rattle.specimens.specs.Calls.{s1, s4, s5, table, second}
use Rattle.specimens.proofs.Called.{Right, cases, second_right}
use Rattle.specimens.proofs.StandIns.{at_place}

-- What comes back from a call of the table is right only where it is what the table has.
as_told : (k : ℕ) → k < length table → (o : Outcome) → Replaces (get_or table k s1).call o → o ≡ (get_or table k s1).outcome
as_told k h o x = outcome_one (get_or table k s1).call o (get_or table k s1).outcome x (at_place s1 Right table cases k h)

told_1 : (o : Outcome) → Replaces s1.call o → o ≡ s1.outcome
told_1 = as_told 0 (lit< tt)

told_4 : (o : Outcome) → Replaces s4.call o → o ≡ s4.outcome
told_4 = as_told 3 (lit< tt)

told_5 : (o : Outcome) → Replaces s5.call o → o ≡ s5.outcome
told_5 = as_told 4 (lit< tt)

told_second : (o : Outcome) → Replaces second.call o → o ≡ second.outcome
told_second o x = outcome_one second.call o second.outcome x second_right

-- It refuses everything, with whatever number: s1 is PERMUTED.
pub refusing_fails : (n : ℕ) (l : Lists) (eta : List ℕ) → ¬ Replaces s1.call (outcome (refused n) l eta)
refusing_fails n l eta x = let e = ap (λ (o : Outcome). o.reply.answer) (told_1 _ x) in let z : ◌≡◌ {A = ℕ} 0 1 = cc in omega arith

-- It always says PERMUTED with the old order, whatever it stores: s4 has another order.
pub old_order_fails : (o : Outcome) → o.lists.order_rows ≡ s4.call.lists.order_rows → ¬ Replaces s4.call o
old_order_fails o same x = omega (arith, ap (λ (l : List ℕ). at l 0) same, ap (λ (o : Outcome). at o.lists.order_rows 0) (told_4 o x))

-- It says ELIMINATION and stores nothing: s5 has other columns after it.
pub storing_nothing_fails : (bump eta_count : ℕ) (eta : List ℕ) → ¬ Replaces s5.call (outcome (elimination bump eta_count) s5.call.lists eta)
storing_nothing_fails b n eta x = omega (arith, ap (λ (o : Outcome). at o.lists.col_starts 1) (told_5 _ x))

-- It is right on the first call, s4, and afterwards only reports: the second call is on the lists that s4 left.
pub only_reporting_fails : (r : Reply) (eta : List ℕ) → ¬ Replaces second.call (outcome r second.call.lists eta)
only_reporting_fails r eta x = omega (arith, ap (λ (o : Outcome). at o.lists.col_starts 2) (told_second _ x))

-- It invents the bump: on s5 that is 2.
pub bump_fails : (o : Outcome) → o.reply.bump ≢ 2 → ¬ Replaces s5.call o
bump_fails o n x = n (ap (λ (o : Outcome). o.reply.bump) (told_5 o x))

-- It invents the eta count: on s5 that is 1.
pub eta_count_fails : (o : Outcome) → o.reply.eta_count ≢ 1 → ¬ Replaces s5.call o
eta_count_fails o n x = n (ap (λ (o : Outcome). o.reply.eta_count) (told_5 o x))
