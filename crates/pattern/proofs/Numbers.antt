-- The numbers below a bound that pass a test: they rise strictly, and are those. Rests on Rises.antt.
use mathlib.Core.Bool.{Bool, true, false, cond}
use mathlib.Core.List.{List, [], ◌∷◌, ◌++◌, append-nil}
use mathlib.Core.Logic.{◌↔◌, ◌⊎◌, inl, inr, ⊎_elim}
use mathlib.Core.Path.{◌≡◌, refl, sym, ap, ap₂, ◌∙◌, subst}
use Prim.Native.Nat.{ℕ, zero, suc, ◌+◌, ◌≤◌, ◌<◌}
use native.Mathlib.Numerals.{add-one}
use native.Mathlib.Omega.{arith}
use lib.Dec.{T}
use lib.ListN.{length, length-append}
use Rattle.pattern.specs.Pattern.{has}
use Rattle.pattern.specs.Series.{numbers}
use Rattle.pattern.specs.Rising.{Rising}
use Rattle.pattern.proofs.Climbing.{climbs}
use Rattle.pattern.proofs.Search.{last_or}
use Rattle.pattern.proofs.Tests.{has_append, has_left, has_right, has_cases, has_here}
use Rattle.pattern.proofs.Rises.{rising_none, rising_wider, rising_one_more}

pub numbers_rise : (f : ℕ → Bool) (n : ℕ) → Rising n (numbers f n)
unfolding numbers
numbers_rise f zero = rising_none
numbers_rise f (suc n) = go (f n) (numbers_rise f n)
  where
    go : (b : Bool) → Rising n (numbers f n) → Rising (suc n) (numbers f n ++ cond b (n ∷ []) [])
    go true s = rising_one_more s
    go false s = rw append-nil (rising_wider s)

pub numbers_are : (f : ℕ → Bool) (n r : ℕ) → T (has (numbers f n) r) ↔ ((r < n) × T (f r))
unfolding numbers
numbers_are f zero r = (λ t. absurd t, λ u. absurd (omega (arith, u.0)))
numbers_are f (suc n) r = (
  λ t. there (f n) refl (λ v. (numbers_are f n r).0 v) (has_append (numbers f n) (cond (f n) (n ∷ []) []) r t),
  λ u. ⊎_elim
      (λ h. has_left (numbers f n) _ r ((numbers_are f n r).1 (h, u.1)))
      (λ e. has_right (numbers f n) _ r (here e (f n) (subst (λ (x : ℕ). T (f x)) e u.1)))
      (last_or n r u.0),
)
  where
    here : r ≡ n → (b : Bool) → T b → T (has (cond b (n ∷ []) []) r)
    here e true t = has_here n r [] (sym e)
    here e false t = elim t [ ]

    only : f n ≡ true → (n ≡ r) ⊎ ⊥ → (r < suc n) × T (f r)
    only e (inl z) = (omega arith, subst T (sym e ∙ ap f z) tt)
    only e (inr x') = elim x' [ ]

    there : (b : Bool) → f n ≡ b → (T (has (numbers f n) r) → (r < n) × T (f r)) → T (has (numbers f n) r) ⊎ T (has (cond b (n ∷ []) []) r) → (r < suc n) × T (f r)
    there b e g (inl t) = let u = g t in (omega (arith, u.0), u.1)
    there true e g (inr t) = only e (has_cases n r [] t)
    there false e g (inr t) = elim t [ ]

-- Tests that agree below `n` give the same.
pub numbers_same : (f g : ℕ → Bool) (n : ℕ) → ((i : ℕ) → i < n → f i ≡ g i) → numbers f n ≡ numbers g n
unfolding numbers
numbers_same f g zero e = refl
numbers_same f g (suc n) e = ap₂ (λ (l : List ℕ) (b : Bool). l ++ cond b (n ∷ []) []) (numbers_same f g n (λ i h. e i (omega arith))) (e n (omega arith))

-- There are at most `n`.
pub numbers_few : (f : ℕ → Bool) (n : ℕ) → length (numbers f n) ≤ n
unfolding numbers
numbers_few f zero = omega arith
numbers_few f (suc n) = omega (arith, length-append (numbers f n) (cond (f n) (n ∷ []) []), one (f n), numbers_few f n)
  where
    one : (b : Bool) → length (cond b (n ∷ []) []) ≤ 1
    one true = omega arith
    one false = omega arith

module _ (f : ℕ → Bool) where
  next : (n : ℕ) → numbers f (n + 1) ≡ numbers f n ++ cond (f n) (n ∷ []) []
  unfolding numbers
  next n = ap (numbers f) (add-one n)

  -- One that passes comes last.
  pub numbers_more : (n : ℕ) → f n ≡ true → numbers f (n + 1) ≡ numbers f n ++ (n ∷ [])
  numbers_more n e = next n ∙ ap (λ (b : Bool). numbers f n ++ cond b (n ∷ []) []) e

  -- Those that do not pass leave nothing.
  pub numbers_skip : (a b : ℕ) → a ≤ b → ((k : ℕ) → a ≤ k → k < b → f k ≡ false) → numbers f b ≡ numbers f a
  unfolding numbers
  numbers_skip a zero h none = let e : 0 ≡ a = omega arith in ap (numbers f) e
  numbers_skip a (suc b) h none =
      ⊎_elim
      (λ u. ap (λ (t : Bool). numbers f b ++ cond t (b ∷ []) []) (none b (omega arith) (omega arith))
      ∙ append-nil (numbers f b)
      ∙ numbers_skip a b (omega arith) (λ k l r. none k l (omega arith)))
      (λ e. ap (numbers f) (sym e))
      (last_or (suc b) a (omega arith))

  -- A greater bound leaves no fewer.
  pub numbers_grow : (m n : ℕ) → m ≤ n → length (numbers f m) ≤ length (numbers f n)
  numbers_grow m n h = climbs (λ i. length (numbers f i)) n (λ i u. step i) m n h (omega arith)
    where
      step : (i : ℕ) → length (numbers f i) ≤ length (numbers f (i + 1))
      step i = omega (arith, ap length (next i), length-append (numbers f i) (cond (f i) (i ∷ []) []))
