-- Stand-ins for a desk, each of which fails the statement on a specimen of the table. Rests on Proved.antt.
use mathlib.Core.List.{List, [], ◌∷◌}
use mathlib.Core.Logic.{◌≢◌, ◌⊎◌, inl, inr}
use mathlib.Core.Path.{◌≡◌, sym, ap, ◌∙◌}
use Prim.Native.Nat.{ℕ, zero, suc, ◌<◌}
use native.Mathlib.Omega.{arith}
use lib.Dec.{lit<}
use lib.ListN.{length, get_or}
use Rattle.pattern.specs.Verdict.{Replacement, Singular, Permuted, Elimination}
use Rattle.specimens.specs.Reply.{Reply, Refused, Given, Replied}
use Rattle.specimens.specs.Table.{Specimen, s1, s4, s5, table, Right, Each}
use Rattle.specimens.proofs.Replies.{reply_unique}
use Rattle.specimens.proofs.Proved.{Starts, specimens, registers}

-- A desk replies to every replacement.
abbrev pub Desk : Type 0
Desk = Replacement → Reply

-- The desk's reply to a specimen is not right.
abbrev pub FailsOn : Specimen → Desk → Type 0
FailsOn s d = ¬ Replied s.asked (d s.asked)

-- What holds of each row of a table holds of the one at a place of it: of s1 at place 0, of s12 at place 11.
pub at_place : {A : Type 0} (d : A) (F : A → Type 0) (l : List A) → Each F l → (k : ℕ) → k < length l → F (get_or l k d)
at_place d F [] e k h = absurd (omega arith)
at_place d F (x ∷ l) e zero h = e.0
at_place d F (x ∷ l) e (suc k) h = at_place d F l e.1 k (omega arith)

-- A right reply to a row of the table is the row's.
as_told : (k : ℕ) → k < length table → (r : Reply) → Replied (get_or table k s1).asked r → r ≡ (get_or table k s1).reply
as_told k h r x =
    reply_unique (get_or table k s1).asked (at_place s1 Starts table registers k h) r (get_or table k s1).reply x (at_place s1 Right table specimens k h)

told_1 : (r : Reply) → Replied s1.asked r → r ≡ s1.reply
told_1 = as_told 0 (lit< tt)

told_4 : (r : Reply) → Replied s4.asked r → r ≡ s4.reply
told_4 = as_told 3 (lit< tt)

told_5 : (r : Reply) → Replied s5.asked r → r ≡ s5.reply
told_5 = as_told 4 (lit< tt)

-- Always PERMUTED with the old order: s4 has another order.
pub old_order_fails : FailsOn s4 (λ a. Given (Permuted a.order_rows a.order_cols))
old_order_fails x = let e = told_4 _ x in let z : ◌≡◌ {A = ℕ} 0 2 = cc in omega arith

-- Always ELIMINATION, whatever its figures: s1 is PERMUTED.
pub elimination_fails : (d : Desk)
    → ((a : Replacement) → (p : List ℕ) × (q : List ℕ) × (b : ℕ) × (e : List ℕ) × (d a ≡ Given (Elimination p q b e)))
    → FailsOn s1 d
elimination_fails d says x = let e = sym (says s1.asked).4 ∙ told_1 _ x in let z : ◌≡◌ {A = ℕ} 0 1 = cc in omega arith

-- Always SINGULAR or a refusal: s1 is PERMUTED.
pub singular_fails : (d : Desk) → ((a : Replacement) → (d a ≡ Given Singular) ⊎ ((n : ℕ) × (d a ≡ Refused n))) → FailsOn s1 d
singular_fails d says x = go (says s1.asked) (told_1 _ x)
  where
    go : (d s1.asked ≡ Given Singular) ⊎ ((n : ℕ) × (d s1.asked ≡ Refused n)) → d s1.asked ≡ s1.reply → ⊥
    go (inl u) e = let z : ◌≡◌ {A = ℕ} 0 1 = cc in omega arith
    go (inr u) e = let z : ◌≡◌ {A = ℕ} 0 1 = cc in omega arith

-- Another bump than 2 on s5.
pub bump_fails : (d : Desk) (p q e : List ℕ) (b : ℕ) → d s5.asked ≡ Given (Elimination p q b e) → b ≢ 2 → FailsOn s5 d
bump_fails d p q e b says n x = let u = told_5 _ x in n (cc)

-- Another eta count than 1 on s5.
pub eta_count_fails : (d : Desk) (p q e : List ℕ) (b : ℕ) → d s5.asked ≡ Given (Elimination p q b e) → length e ≢ 1 → FailsOn s5 d
eta_count_fails d p q e b says n x = let u = told_5 _ x in let z : e ≡ 1 ∷ [] = cc in n (ap length z)
