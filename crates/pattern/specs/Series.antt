-- What is made of `f 0 .. f (n - 1)`, or of the numbers of a list: a list, those that pass a test, the greatest, the sum.
-- Rests on nothing.
use Rattle.std.specs.Prelude.{Bool, cond, List, [], ◌∷◌, ◌++◌, ℕ, zero, suc, ◌+◌, max}

-- `f 0 .. f (n - 1)` as a list.
abbrev pub each : {A : Type 0} → (ℕ → A) → ℕ → List A
each f zero = []
each f (suc n) = f zero ∷ each (λ i. f (suc i)) n

-- The numbers below `n` that pass a test, in rising order.
unfoldable pub numbers : (ℕ → Bool) → ℕ → List ℕ
numbers test zero = []
numbers test (suc n) = numbers test n ++ cond (test n) (n ∷ []) []

-- The greatest of what `f` gives for the numbers of a list, and 0 where it has none.
unfoldable pub greatest : (ℕ → ℕ) → List ℕ → ℕ
greatest f [] = 0
greatest f (x ∷ l) = max (f x) (greatest f l)

-- `f 0 + .. + f (n - 1)`.
unfoldable pub tally : (ℕ → ℕ) → ℕ → ℕ
tally f zero = 0
tally f (suc n) = tally f n + f n
