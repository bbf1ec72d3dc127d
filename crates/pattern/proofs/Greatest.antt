-- The greatest of what a function gives for the numbers of a list. Rests on Tests.antt.
use mathlib.Core.List.{List, [], ◌∷◌, ◌++◌}
use mathlib.Core.Logic.{⊎_elim}
use mathlib.Core.Path.{◌≡◌, refl, ap}
use Prim.Native.Nat.{ℕ, ◌≤◌, ◌<◌, max}
use native.Mathlib.Omega.{arith}
use native.Mathlib.Decide.{dec_le}
use lib.Dec.{T}
use lib.ListN.{length}
use Rattle.pattern.specs.Pattern.{has}
use Rattle.pattern.specs.Series.{greatest}
use Rattle.pattern.proofs.Tests.{has_cases, has_here, has_there}

module _ (f : ℕ → ℕ) where
  -- No number of the list is given more.
  pub greatest_high : (l : List ℕ) (x : ℕ) → T (has l x) → f x ≤ greatest f l
  unfolding greatest
  greatest_high [] x h = absurd h
  greatest_high (y ∷ l) x h = ⊎_elim (λ e. omega (arith, ap f e)) (λ u. omega (arith, greatest_high l x u)) (has_cases y x l h)

  -- Where the list has a number, one of them is given it.
  pub greatest_some : (l : List ℕ) → 0 < length l → (x : ℕ) × T (has l x) × (f x ≡ greatest f l)
  unfolding greatest
  greatest_some [] h = absurd (omega arith)
  greatest_some (y ∷ []) h = (y, has_here y y [] refl, omega arith)
  greatest_some (y ∷ z ∷ l) h = go (dec_le (greatest f (z ∷ l)) (f y)) (greatest_some (z ∷ l) (omega arith))
    where
      go : Dec (greatest f (z ∷ l) ≤ f y) → (x : ℕ) × T (has (z ∷ l) x) × (f x ≡ greatest f (z ∷ l))
          → (x : ℕ) × T (has (y ∷ z ∷ l) x) × (f x ≡ max (f y) (greatest f (z ∷ l)))
      go (yes h) s = (y, has_here y y (z ∷ l) refl, omega arith)
      go (no n) s = (s.0, has_there y s.0 (z ∷ l) s.1, omega (arith, s.2))

  -- One number more.
  pub greatest_more : (l : List ℕ) (x : ℕ) → greatest f (l ++ (x ∷ [])) ≡ max (greatest f l) (f x)
  unfolding greatest
  greatest_more [] x = omega arith
  greatest_more (y ∷ l) x = omega (arith, greatest_more l x)

  -- It is at most what all of them are.
  pub greatest_low : (l : List ℕ) (b : ℕ) → ((x : ℕ) → T (has l x) → f x ≤ b) → greatest f l ≤ b
  unfolding greatest
  greatest_low [] b h = omega arith
  greatest_low (y ∷ l) b h = omega (arith, h y (has_here y y l refl), greatest_low l b (λ x u. h x (has_there y x l u)))

  -- Another function that gives the numbers of the list the same.
  pub greatest_same : (g : ℕ → ℕ) (l : List ℕ) → ((x : ℕ) → T (has l x) → f x ≡ g x) → greatest f l ≡ greatest g l
  unfolding greatest
  greatest_same g [] e = refl
  greatest_same g (y ∷ l) e = omega (arith, e y (has_here y y l refl), greatest_same g l (λ x u. e x (has_there y x l u)))
