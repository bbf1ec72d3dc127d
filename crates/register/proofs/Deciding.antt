-- Tests that compute, and what their answers say: of two numbers, of two tests together, of all numbers below a bound, of two
-- lists; and a ladder of checks that computes. Rests on `pattern` and `listing`.
use mathlib.Core.Bool.{Bool, true, false, cond, not, ◌&&◌, ◌||◌}
use mathlib.Core.List.{List, [], ◌∷◌}
use mathlib.Core.Logic.{⊎_elim}
use mathlib.Core.Path.{◌≡◌, refl, sym, ap₂, subst}
use Prim.Native.Nat.{ℕ, zero, suc, ◌≤◌, ◌<◌}
use native.Mathlib.Omega.{arith}
use lib.Dec.{T, T_not, not_T, eqb, eqb→eq, leb, leb→le, le→leb, ltb, ltb→lt, lt→ltb}
use Rattle.pattern.specs.Ladder.{Unless, fails, holds}
use Rattle.pattern.proofs.Search.{last_or}
use Rattle.pattern.proofs.Tests.{eq-eqb, and_both, and_left, and_right, or_cases, or_left, or_right, T_dec}
use Rattle.listing.specs.Says.{Says}
use Rattle.listing.proofs.Answers.{told_yes, told_no, says_as}

-- ---- One test

-- By a law in each direction.
pub says_by : {P : Type 0} (b : Bool) → (T b → P) → (P → T b) → Says b P
says_by true f g = told_yes (f tt)
says_by false f g = told_no (λ p. g p)

pub says_shown : {P : Type 0} {b : Bool} → Says b P → T b → P
says_shown {b = true} s t = s.yes refl
says_shown {b = false} s t = absurd t

pub says_met : {P : Type 0} {b : Bool} → Says b P → P → T b
says_met {b = true} s p = tt
says_met {b = false} s p = s.no refl p

pub says_itself : (b : Bool) → Says b (T b)
says_itself b = says_by b (λ t. t) (λ t. t)

pub says_equal : (a b : ℕ) → Says (eqb a b) (a ≡ b)
says_equal a b = says_by (eqb a b) (eqb→eq a b) (eq-eqb a b)

pub says_most : (a b : ℕ) → Says (leb a b) (a ≤ b)
says_most a b = says_by (leb a b) (leb→le a b) (le→leb a b)

pub says_below : (a b : ℕ) → Says (ltb a b) (a < b)
says_below a b = says_by (ltb a b) (ltb→lt a b) (lt→ltb a b)

-- ---- Tests of tests

pub says_both : {P Q : Type 0} (a b : Bool) → Says a P → Says b Q → Says (a && b) (P × Q)
says_both a b s t =
    says_by (a && b) (λ u. (says_shown s (and_left a b u), says_shown t (and_right a b u))) (λ p. and_both a b (says_met s p.0) (says_met t p.1))

pub says_if : {P Q : Type 0} (a b : Bool) → Says a P → Says b Q → Says (not a || b) (P → Q)
says_if {P} {Q} a b s t = says_by (not a || b) there (λ f. back f (T_dec a))
  where
    there : T (not a || b) → P → Q
    there u p = ⊎_elim (λ n. absurd (T_not a n (says_met s p))) (λ v. says_shown t v) (or_cases (not a) b u)

    back : (P → Q) → Dec (T a) → T (not a || b)
    back f (yes u) = or_right (not a) b (says_met t (f (says_shown s u)))
    back f (no u) = or_left (not a) b (not_T a u)

-- All numbers below `n` pass.
unfoldable pub all : (ℕ → Bool) → ℕ → Bool
all f zero = true
all f (suc n) = all f n && f n

pub says_all : {P : ℕ → Type 0} (f : ℕ → Bool) (n : ℕ) → ((i : ℕ) → Says (f i) (P i)) → Says (all f n) ((i : ℕ) → i < n → P i)
unfolding all
says_all f zero s = told_yes (λ i h. absurd (omega arith))
says_all {P} f (suc n) s =
    says_as (λ u i h. ⊎_elim (λ k. u.0 i k) (λ e. subst P (sym e) u.1) (last_or n i h)) (λ u. (λ i h. u i (omega arith), u n (omega arith)))
    (says_both (all f n) (f n) (says_all {P = P} f n s) (s n))

-- All pairs of them pass.
pub says_pairs : {P : ℕ → ℕ → Type 0} (f : ℕ → ℕ → Bool) (n : ℕ) → ((i j : ℕ) → Says (f i j) (P i j))
    → Says (all (λ i. all (f i) n) n) ((i j : ℕ) → i < n → j < n → P i j)
says_pairs {P} f n s =
    says_as (λ u i j hi hj. u i hi j hj) (λ u i hi j hj. u i j hi hj)
    (says_all {P = λ i. (j : ℕ) → j < n → P i j} (λ i. all (f i) n) n (λ i. says_all {P = P i} (f i) n (s i)))

-- Two lists are the same.
module _ {A : Type 0} (f : A → A → Bool) where
  unfoldable pub alike : List A → List A → Bool
  alike [] [] = true
  alike [] (y ∷ l) = false
  alike (x ∷ k) [] = false
  alike (x ∷ k) (y ∷ l) = f x y && alike k l

  pub says_alike : ((x y : A) → Says (f x y) (x ≡ y)) → (k l : List A) → Says (alike k l) (k ≡ l)
  unfolding alike
  says_alike s [] [] = told_yes refl
  says_alike s [] (y ∷ l) = told_no (λ e. let z : ◌≡◌ {A = ℕ} 0 1 = cc in omega arith)
  says_alike s (x ∷ k) [] = told_no (λ e. let z : ◌≡◌ {A = ℕ} 0 1 = cc in omega arith)
  says_alike s (x ∷ k) (y ∷ l) =
      says_as (λ u. ap₂ ◌∷◌ u.0 u.1) (λ e. (cc, cc)) (says_both (f x y) (alike k l) (s x y) (says_alike s k l))

-- ---- A ladder

-- The refusal where the test fails, else what the rest gives.
abbrev pub checked : {A : Type 0} → Bool → (refusal rest : A) → A
checked b refusal rest = cond b rest refusal

pub checked_right : {A P : Type 0} {x : A} {rest : A → Type 0} (b : Bool) (o : A) → Says b P → (P → rest o) → Unless P x rest (checked b x o)
checked_right true o s f = let p = s.yes refl in holds p (f p)
checked_right false o s f = fails (s.no refl) refl
