-- Numbers that stand once: laws, and the pigeonhole principle. Rests on Search.antt.
use mathlib.Core.Logic.{◌≢◌, ◌⊎◌, inl, inr, ite}
use mathlib.Core.Path.{◌≡◌, sym, ap, ◌∙◌}
use Prim.Native.Nat.{ℕ, zero, suc, ◌≤◌, ◌<◌}
use native.Mathlib.Decide.{ℕ_discrete}
use native.Mathlib.Omega.{arith}
use Rattle.pattern.specs.Places.{Among, Outside, Once, Same}
use Rattle.pattern.proofs.Search.{last_or, ite_cases, not_outside}

-- ---- Laws

pub once_none : {f : ℕ → ℕ} {m : ℕ} → Once f 0 m
once_none = record { below = λ i h. absurd (omega arith); once = λ i j h. absurd (omega arith) }

-- One place more.
pub once_more : {f : ℕ → ℕ} {n m : ℕ} → Once f n m → f n < m → Outside f n (f n) → Once f (suc n) m
once_more {f} {n} {m} k l o = record { below = λ i h. low i (last_or n i h); once = λ i j hi hj e. apart i j e (last_or n i hi) (last_or n j hj) }
  where
    low : (i : ℕ) → (i < n) ⊎ (i ≡ n) → f i < m
    low i (inl h) = k.below i h
    low i (inr e) = omega (arith, ap f e)

    apart : (i j : ℕ) → f i ≡ f j → (i < n) ⊎ (i ≡ n) → (j < n) ⊎ (j ≡ n) → i ≡ j
    apart i j e (inl a) (inl b) = k.once i j a b e
    apart i j e (inl a) (inr b) = absurd (o i a (e ∙ ap f b))
    apart i j e (inr a) (inl b) = absurd (o j b (sym e ∙ ap f a))
    apart i j e (inr a) (inr b) = a ∙ sym b

-- The first places.
pub once_part : {f : ℕ → ℕ} {n m : ℕ} (k : ℕ) → k ≤ n → Once f n m → Once f k m
once_part k l o = record { below = λ i h. o.below i (omega arith); once = λ i j hi hj. o.once i j (omega arith) (omega arith) }

-- Another function with the same numbers.
pub once_same : {f g : ℕ → ℕ} {n m : ℕ} → Same n f g → Once f n m → Once g n m
once_same s o = record { below = λ i h. omega (arith, s i h, o.below i h); once = λ i j hi hj e. o.once i j hi hj (s i hi ∙ e ∙ sym (s j hj)) }

-- One after the other.
pub once_through : {f g : ℕ → ℕ} {n m k : ℕ} → Once f n m → Once g m k → Once (λ i. g (f i)) n k
once_through {f} a b =
    record {
      below = λ i h. b.below (f i) (a.below i h);
      once = λ i j hi hj e. a.once i j hi hj (b.once (f i) (f j) (a.below i hi) (a.below j hj) e);
    }

-- ---- The pigeonhole principle

-- A function that takes the numbers below `m` to different numbers below `m` misses none of them.
misses_none : (m : ℕ) (f : ℕ → ℕ) → Once f m m → (y : ℕ) → y < m → ¬ Outside f m y
misses_none zero f k y l o = omega arith
misses_none (suc n) f k y l o =
    misses_none n g
    (record { below = λ i h. low i (omega arith) (split i); once = λ i j hi hj e. apart i j (omega arith) (omega arith) e (split i) (split j) })
    (g n) (low n (omega arith) (split n)) (λ i h e. below_top i h (apart i n (omega arith) (omega arith) e (split i) (split n)))
  where
    -- the top number, where `f` takes it, gives way to the number that `f` misses
    g : ℕ → ℕ
    g i = ite (ℕ_discrete (f i) n) y (f i)

    Split : ℕ → Type 0
    Split i = ((f i ≡ n) × (g i ≡ y)) ⊎ ((f i ≢ n) × (g i ≡ f i))

    split : (i : ℕ) → Split i
    split i = ite_cases (ℕ_discrete (f i) n) y (f i)

    low : (i : ℕ) → i < suc n → Split i → g i < n
    low i h (inl c) = omega (arith, o i h)
    low i h (inr c) = omega (arith, k.below i h)

    apart : (i j : ℕ) → i < suc n → j < suc n → g i ≡ g j → Split i → Split j → i ≡ j
    apart i j hi hj e (inl a) (inl b) = k.once i j hi hj (omega arith)
    apart i j hi hj e (inl a) (inr b) = absurd (o j hj (omega arith))
    apart i j hi hj e (inr a) (inl b) = absurd (o i hi (omega arith))
    apart i j hi hj e (inr a) (inr b) = k.once i j hi hj (omega arith)

    below_top : (i : ℕ) → i < n → i ≢ n
    below_top i h = omega arith

-- So each number below `m` is among them.
pub onto : {f : ℕ → ℕ} {m : ℕ} → Once f m m → (y : ℕ) → y < m → Among f m y
onto {f} {m} k y l = not_outside f m y (misses_none m f k y l)

-- And no function takes the numbers below `m` to different numbers below a smaller `n`.
pub too_many : {f : ℕ → ℕ} {m n : ℕ} → n < m → ¬ Once f m n
too_many {f} {m} {n} l k =
    misses_none m f (record { below = λ i h. omega (arith, k.below i h); once = k.once }) n l (λ i h. omega (arith, k.below i h))
