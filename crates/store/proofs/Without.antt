-- A list without one number: what it has, and that it rises where the list does. Rests on specs/Store.antt and `pattern`.
use mathlib.Core.Bool.{Bool, true, false, cond}
use mathlib.Core.List.{List, [], ◌∷◌, ◌++◌}
use mathlib.Core.Logic.{◌≢◌, ⊎_elim}
use mathlib.Core.Path.{◌≡◌, refl, sym, ap, ◌∙◌}
use Prim.Native.Nat.{ℕ}
use native.Mathlib.Decide.{ℕ_discrete}
use native.Mathlib.Omega.{arith}
use lib.Dec.{T, eqb}
use Rattle.pattern.specs.Pattern.{has}
use Rattle.pattern.specs.Rising.{Rising}
use Rattle.pattern.proofs.Rises.{rising_none, rising_tail, rising_after, rising_front}
use Rattle.pattern.proofs.Tests.{choose_same, choose_other, has_cases, has_here, has_there}
use Rattle.store.specs.Store.{without}

module _ (r x : ℕ) (l : List ℕ) where
  -- The first number is struck out, or stays.
  pub without_struck : x ≡ r → without r (x ∷ l) ≡ without r l
  without_struck e = choose_same x r (without r l) (x ∷ without r l) e

  without_kept : x ≢ r → without r (x ∷ l) ≡ x ∷ without r l
  without_kept n = choose_other x r (without r l) (x ∷ without r l) n

-- It has the numbers of the list, but `r`.
pub without_has : (r : ℕ) (l : List ℕ) (y : ℕ) → T (has (without r l) y) → T (has l y) × (y ≢ r)
without_has r [] y t = absurd t
without_has r (x ∷ l) y t = go (ℕ_discrete x r) (λ u. without_has r l y u)
  where
    go : Dec (x ≡ r) → (T (has (without r l) y) → T (has l y) × (y ≢ r)) → T (has (x ∷ l) y) × (y ≢ r)
    go (yes e) f = let u = f (rw (without_struck r x l e) at t) in (has_there x y l u.0, u.1)
    go (no n) f =
        ⊎_elim
        (λ z. (has_here x y l z, λ w. n (z ∙ w)))
        (λ u. (has_there x y l (f u).0, (f u).1))
        (has_cases x y (without r l) (rw (without_kept r x l n) at t))

pub has_without : (r : ℕ) (l : List ℕ) (y : ℕ) → T (has l y) → y ≢ r → T (has (without r l) y)
has_without r [] y t n = absurd t
has_without r (x ∷ l) y t n = go (ℕ_discrete x r) (λ u. has_without r l y u n)
  where
    go : Dec (x ≡ r) → (T (has l y) → T (has (without r l) y)) → T (has (without r (x ∷ l)) y)
    go (yes e) f = rw (without_struck r x l e) (⊎_elim (λ z. absurd (n (sym z ∙ e))) f (has_cases x y l t))
    go (no k) f =
        rw (without_kept r x l k) (⊎_elim (λ z. has_here x y (without r l) z) (λ u. has_there x y (without r l) (f u)) (has_cases x y l t))

-- Where `r` does not stand in the list, it is the list.
pub without_none : (r : ℕ) (l : List ℕ) → ¬ T (has l r) → without r l ≡ l
without_none r [] n = refl
without_none r (x ∷ l) n =
    without_kept r x l (λ e. n (has_here x r l e)) ∙ ap (λ (k : List ℕ). x ∷ k) (without_none r l (λ t. n (has_there x r l t)))

pub without_rises : {m : ℕ} (r : ℕ) (l : List ℕ) → Rising m l → Rising m (without r l)
without_rises r [] s = rising_none
without_rises {m} r (x ∷ l) s = go (ℕ_discrete x r) (without_rises r l (rising_tail s))
  where
    go : Dec (x ≡ r) → Rising m (without r l) → Rising m (without r (x ∷ l))
    go (yes e) t = rw (without_struck r x l e) t
    go (no n) t = rw (without_kept r x l n) (rising_front (s.below 0 (omega arith)) (λ y u. rising_after s y (without_has r l y u).0) t)

-- Of two lists one after the other.
pub without_append : (r : ℕ) (k l : List ℕ) → without r (k ++ l) ≡ without r k ++ without r l
without_append r [] l = refl
without_append r (x ∷ k) l = go (eqb x r) (without_append r k l)
  where
    go : (b : Bool) → without r (k ++ l) ≡ without r k ++ without r l
        → cond b (without r (k ++ l)) (x ∷ without r (k ++ l)) ≡ cond b (without r k) (x ∷ without r k) ++ without r l
    go true e = e
    go false e = ap (λ (j : List ℕ). x ∷ j) e
