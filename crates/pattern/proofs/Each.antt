-- The list `f 0 .. f (n - 1)`: its length, its places, one more, and that a list is such a list. Rests on specs/Series.antt.
use mathlib.Core.List.{List, [], ◌∷◌, ◌++◌}
use mathlib.Core.Path.{◌≡◌, refl, ap, ap₂, ◌∙◌}
use Prim.Native.Nat.{ℕ, zero, suc, ◌+◌, ◌<◌}
use native.Mathlib.Numerals.{add-one}
use native.Mathlib.Omega.{arith}
use lib.ListN.{length, get_or}
use Rattle.pattern.specs.Series.{each}

module _ {A : Type 0} where
  pub length_each : (f : ℕ → A) (n : ℕ) → length (each f n) ≡ n
  length_each f zero = refl
  length_each f (suc n) = ap suc (length_each (λ i. f (suc i)) n)

  pub each_at : (f : ℕ → A) (n i : ℕ) (d : A) → i < n → get_or (each f n) i d ≡ f i
  each_at f zero i d h = absurd (omega arith)
  each_at f (suc n) zero d h = refl
  each_at f (suc n) (suc i) d h = each_at (λ j. f (suc j)) n i d (omega arith)

  pub each_same : (f g : ℕ → A) (n : ℕ) → ((i : ℕ) → i < n → f i ≡ g i) → each f n ≡ each g n
  each_same f g zero e = refl
  each_same f g (suc n) e = ap₂ ◌∷◌ (e zero (omega arith)) (each_same (λ i. f (suc i)) (λ i. g (suc i)) n (λ i h. e (suc i) (omega arith)))

  pub each_is : (l : List A) (d : A) → each (λ i. get_or l i d) (length l) ≡ l
  each_is [] d = refl
  each_is (x ∷ l) d = ap (λ (k : List A). x ∷ k) (each_is l d)

  -- The last one by itself.
  each_last : (f : ℕ → A) (n : ℕ) → each f (suc n) ≡ each f n ++ (f n ∷ [])
  each_last f zero = refl
  each_last f (suc n) = ap (λ (k : List A). f zero ∷ k) (each_last (λ i. f (suc i)) n)

  pub each_more : (f : ℕ → A) (n : ℕ) → each f (n + 1) ≡ each f n ++ (f n ∷ [])
  each_more f n = ap (each f) (add-one n) ∙ each_last f n
