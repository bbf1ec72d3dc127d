-- The rows of the new column told, one by one, from the others that have no place. Rests on specs/Peel.antt and Marking.antt.
use mathlib.Core.Bool.{Bool, true, false}
use mathlib.Core.List.{List}
use mathlib.Core.Logic.{◌≢◌, ◌↔◌, ◌⊎◌, inl, inr, ⊎_elim}
use mathlib.Core.Path.{◌≡◌, sym, ap, ◌∙◌, subst}
use Prim.Native.Nat.{ℕ, ◌+◌, ◌≤◌, ◌<◌}
use native.Mathlib.Decide.{ℕ_discrete}
use native.Mathlib.Omega.{arith}
use lib.Dec.{T, eqb, eqb→eq}
use lib.ListN.{length, set, take, length-set}
use lib.Seq.{get_or-set_same, get_or-set_other}
use Rattle.pattern.specs.Pattern.{has}
use Rattle.pattern.specs.Places.{at}
use Rattle.pattern.proofs.Tests.{true_T, T_true, T_false, eq-eqb}
use Rattle.listing.specs.Limits.{max_size}
use Rattle.judge.proofs.Marking.{has_more}

-- Of the numbers below `m` that have no place those of the list `new`, and no others, are told by `max_size + 1`.
abbrev pub NewTold : (m : ℕ) (new places : List ℕ) → Type 0
NewTold m new places = (x : ℕ) → x < m → max_size ≤ at places x → (at places x ≡ max_size + 1) ↔ T (has new x)

-- What stands for `x`, which has no place, when the numbers of `l` have been gone through.
abbrev Stands : (l now : List ℕ) → ℕ → Type 0
Stands l now x = ((at now x ≡ max_size) × ¬ T (has l x)) ⊎ ((at now x ≡ max_size + 1) × T (has l x))

-- The first `k` numbers have been gone through.
pub record Flagging (new places : List ℕ) (k : ℕ) (now : List ℕ) : Type 0 where
  pub long : length now ≡ max_size
  pub kept : (x : ℕ) → x < max_size → at places x < max_size → at now x ≡ at places x
  pub stands : (x : ℕ) → x < max_size → at places x ≡ max_size → Stands (take k new) now x

module _ {new places : List ℕ} where
  module _ {k x : ℕ} {now : List ℕ} (h : k < length new) (ex : x ≡ at new k) (low : x < max_size) (F : Flagging new places k now) where
    -- Any other number stands in the longer part where it stands in the shorter.
    other : (l : List ℕ) (y : ℕ) → y ≢ x → at l y ≡ at now y → Stands (take k new) now y → Stands (take (k + 1) new) l y
    other l y n e (inl a) = inl (e ∙ a.0, λ t. ⊎_elim a.1 (λ z. n (sym z ∙ sym ex)) ((has_more new k y h).0 t))
    other l y n e (inr a) = inr (e ∙ a.0, (has_more new k y h).1 (inl a.1))

    here : T (has (take (k + 1) new) x)
    here = (has_more new k x h).1 (inr (sym ex))

    -- The next number is not told yet.
    pub flagging_more : at now x ≡ max_size → Flagging new places (k + 1) (set now x (max_size + 1))
    flagging_more e =
        record {
          long = length-set now x (max_size + 1) ∙ F.long;
          kept = λ y b u. get_or-set_other now x y (max_size + 1) 0 (λ z. omega (arith, F.kept y b u, ap (at now) z)) ∙ F.kept y b u;
          stands = λ y b u. go y b u (ℕ_discrete y x);
        }
      where
        go : (y : ℕ) → y < max_size → at places y ≡ max_size → Dec (y ≡ x) → Stands (take (k + 1) new) (set now x (max_size + 1)) y
        go y b u (yes z) =
            subst (Stands (take (k + 1) new) (set now x (max_size + 1))) (sym z) (inr (get_or-set_same now x (max_size + 1) 0 (omega (arith, F.long)), here))
        go y b u (no z) = other (set now x (max_size + 1)) y z (get_or-set_other now x y (max_size + 1) 0 z) (F.stands y b u)

    -- It is, or it has a place.
    pub flagging_same : at now x ≢ max_size → Flagging new places (k + 1) now
    flagging_same n = record { long = F.long; kept = F.kept; stands = λ y b u. go y b u (ℕ_discrete y x) }
      where
        told : (y : ℕ) → y ≡ x → Stands (take k new) now y → Stands (take (k + 1) new) now y
        told y z (inl a) = absurd (n (sym (ap (at now) z) ∙ a.0))
        told y z (inr a) = inr (a.0, (has_more new k y h).1 (inl a.1))

        go : (y : ℕ) → y < max_size → at places y ≡ max_size → Dec (y ≡ x) → Stands (take (k + 1) new) now y
        go y b u (yes z) = told y z (F.stands y b u)
        go y b u (no z) = other now y z (omega arith) (F.stands y b u)

-- The test that tells them.
pub new_told : {m : ℕ} (new places : List ℕ) (x : ℕ) → NewTold m new places → x < m → max_size ≤ at places x → (b : Bool) → eqb (at places x) (max_size + 1) ≡ b → has new x ≡ b
new_told new places x N h u true e = T_true (has new x) ((N x h u).0 (eqb→eq (at places x) (max_size + 1) (true_T e)))
new_told new places x N h u false e =
    T_false (has new x) (λ t. subst T e (eq-eqb (at places x) (max_size + 1) ((N x h u).1 t)))
