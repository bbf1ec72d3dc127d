-- Tests that compute, and what each says: of two Booleans, of a number in a list, of two lists with a number in common.
-- Rests on specs/Pattern.antt.
use mathlib.Core.Bool.{Bool, true, false, cond, ◌&&◌, ◌||◌}
use mathlib.Core.List.{List, [], ◌∷◌, ◌++◌}
use mathlib.Core.Logic.{◌≢◌, ◌⊎◌, inl, inr, ⊎_elim}
use mathlib.Core.Path.{◌≡◌, refl, sym, ap, subst}
use Prim.Native.Nat.{ℕ, zero, suc, ◌<◌}
use native.Mathlib.Omega.{arith}
use lib.Dec.{T, eqb, eqb→eq, eqb_refl}
use lib.ListN.{length}
use Rattle.pattern.specs.Pattern.{has}
use Rattle.pattern.specs.Places.{at, Among}

-- ---- Booleans

pub T_dec : (b : Bool) → Dec (T b)
T_dec true = yes tt
T_dec false = no (λ t. t)

pub true_T : {b : Bool} → b ≡ true → T b
true_T e = subst T (sym e) tt

pub T_true : (b : Bool) → T b → b ≡ true
T_true true t = refl
T_true false t = absurd t

pub T_false : (b : Bool) → ¬ T b → b ≡ false
T_false true n = absurd (n tt)
T_false false n = refl

pub or_cases : (a b : Bool) → T (a || b) → T a ⊎ T b
or_cases true b t = inl tt
or_cases false b t = inr t

pub or_left : (a b : Bool) → T a → T (a || b)
or_left true b t = tt
or_left false b t = absurd t

pub or_right : (a b : Bool) → T b → T (a || b)
or_right true b t = tt
or_right false b t = t

pub and_both : (a b : Bool) → T a → T b → T (a && b)
and_both true b s t = t
and_both false b s t = s

pub and_left : (a b : Bool) → T (a && b) → T a
and_left true b t = tt
and_left false b t = t

pub and_right : (a b : Bool) → T (a && b) → T b
and_right true b t = t
and_right false b t = absurd t

pub eq-eqb : (a b : ℕ) → a ≡ b → T (eqb a b)
eq-eqb a b e = subst (λ (y : ℕ). T (eqb a y)) e (eqb_refl a)

-- A choice by whether two numbers are equal.
module _ {A : Type 0} (x y : ℕ) (a b : A) where
  pub choose_same : x ≡ y → cond (eqb x y) a b ≡ a
  choose_same e = ap (λ (t : Bool). cond t a b) (T_true (eqb x y) (eq-eqb x y e))

  pub choose_other : x ≢ y → cond (eqb x y) a b ≡ b
  choose_other n = ap (λ (t : Bool). cond t a b) (T_false (eqb x y) (λ t. n (eqb→eq x y t)))

-- ---- A number in a list

pub has_cases : (x r : ℕ) (l : List ℕ) → T (has (x ∷ l) r) → (x ≡ r) ⊎ T (has l r)
has_cases x r l t = go (or_cases (eqb x r) (has l r) t)
  where
    go : T (eqb x r) ⊎ T (has l r) → (x ≡ r) ⊎ T (has l r)
    go (inl u) = inl (eqb→eq x r u)
    go (inr u) = inr u

pub has_here : (x r : ℕ) (l : List ℕ) → x ≡ r → T (has (x ∷ l) r)
has_here x r l e = or_left (eqb x r) (has l r) (eq-eqb x r e)

pub has_there : (x r : ℕ) (l : List ℕ) → T (has l r) → T (has (x ∷ l) r)
has_there x r l t = or_right (eqb x r) (has l r) t

pub has_append : (k l : List ℕ) (r : ℕ) → T (has (k ++ l) r) → T (has k r) ⊎ T (has l r)
has_append [] l r t = inr t
has_append (x ∷ k) l r t = go (or_cases (eqb x r) (has (k ++ l) r) t) (λ u. has_append k l r u)
  where
    go : T (eqb x r) ⊎ T (has (k ++ l) r) → (T (has (k ++ l) r) → T (has k r) ⊎ T (has l r)) → T (has (x ∷ k) r) ⊎ T (has l r)
    go (inl u) f = inl (or_left (eqb x r) (has k r) u)
    go (inr u) f = ⊎_elim (λ v. inl (has_there x r k v)) (λ v. inr v) (f u)

pub has_right : (k l : List ℕ) (r : ℕ) → T (has l r) → T (has (k ++ l) r)
has_right [] l r t = t
has_right (x ∷ k) l r t = has_there x r (k ++ l) (has_right k l r t)

pub has_left : (k l : List ℕ) (r : ℕ) → T (has k r) → T (has (k ++ l) r)
has_left [] l r t = absurd t
has_left (x ∷ k) l r t = ⊎_elim (λ e. has_here x r (k ++ l) e) (λ u. has_there x r (k ++ l) (has_left k l r u)) (has_cases x r k t)

-- The test passes for the numbers that stand at some place, and for no others.
pub has_among : (l : List ℕ) (r : ℕ) → T (has l r) → Among (at l) (length l) r
has_among [] r t = absurd t
has_among (x ∷ l) r t = go (has_cases x r l t) (λ u. has_among l r u)
  where
    go : (x ≡ r) ⊎ T (has l r) → (T (has l r) → Among (at l) (length l) r) → Among (at (x ∷ l)) (suc (length l)) r
    go (inl e) f = (zero, omega arith, e)
    go (inr u) f = let a = f u in (suc a.0, omega (arith, a.1), a.2)

pub among_has : (l : List ℕ) (i : ℕ) → i < length l → T (has l (at l i))
among_has [] i h = absurd (omega arith)
among_has (x ∷ l) zero h = has_here x x l refl
among_has (x ∷ l) (suc i) h = has_there x (at l i) l (among_has l i (omega arith))

-- ---- A number in both of two lists

unfoldable pub meets : List ℕ → List ℕ → Bool
meets [] k = false
meets (x ∷ l) k = has k x || meets l k

pub meets_some : (l k : List ℕ) → T (meets l k) → (r : ℕ) × T (has l r) × T (has k r)
unfolding meets
meets_some [] k t = absurd t
meets_some (x ∷ l) k t = go (or_cases (has k x) (meets l k) t) (λ u. meets_some l k u)
  where
    go : T (has k x) ⊎ T (meets l k) → (T (meets l k) → (r : ℕ) × T (has l r) × T (has k r)) → (r : ℕ) × T (has (x ∷ l) r) × T (has k r)
    go (inl u) f = (x, has_here x x l refl, u)
    go (inr u) f = let a = f u in (a.0, has_there x a.0 l a.1, a.2)

pub some_meets : (l k : List ℕ) (r : ℕ) → T (has l r) → T (has k r) → T (meets l k)
unfolding meets
some_meets [] k r t u = absurd t
some_meets (x ∷ l) k r t u = go (has_cases x r l t) (λ v. some_meets l k r v u)
  where
    go : (x ≡ r) ⊎ T (has l r) → (T (has l r) → T (meets l k)) → T (has k x || meets l k)
    go (inl e) f = or_left (has k x) (meets l k) (subst (λ (y : ℕ). T (has k y)) (sym e) u)
    go (inr v) f = or_right (has k x) (meets l k) (f v)
