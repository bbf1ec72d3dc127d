-- Rows of numbers, read as functions of the place: which numbers stand at the first places, and where.
-- A part of a list from its beginning is the same function with a smaller count. Rests on nothing.
use Rattle.std.specs.Prelude.{◌≡◌, Bool, cond, List, ◌≢◌, ℕ, zero, suc, ◌<◌, eqb, get_or}

-- The number at place `i` of a list, and 0 past its end.
abbrev pub at : List ℕ → ℕ → ℕ
at l i = get_or l i 0

-- `x` is among `f 0 .. f (n - 1)`, with the place where it stands.
abbrev pub Among : (ℕ → ℕ) → ℕ → ℕ → Type 0
Among f n x = (i : ℕ) × (i < n) × (f i ≡ x)

-- `x` is not among `f 0 .. f (n - 1)`.
abbrev pub Outside : (ℕ → ℕ) → ℕ → ℕ → Type 0
Outside f n x = (i : ℕ) → i < n → f i ≢ x

-- `f 0 .. f (n - 1)` are numbers below `m`, and none stands twice. Where `n` is `m`, each number below `m` stands once.
pub record Once (f : ℕ → ℕ) (n m : ℕ) : Type 0 where
  pub below : (i : ℕ) → i < n → f i < m
  pub once : (i j : ℕ) → i < n → j < n → f i ≡ f j → i ≡ j

-- `f 0 .. f (n - 1)` and `g 0 .. g (n - 1)` are the same.
abbrev pub Same : ℕ → (ℕ → ℕ) → (ℕ → ℕ) → Type 0
Same n f g = (i : ℕ) → i < n → f i ≡ g i

-- The least number below `n` that passes a test, and `n` where none does.
unfoldable pub least : (ℕ → Bool) → ℕ → ℕ
least test zero = zero
least test (suc n) = cond (test zero) zero (suc (least (λ i. test (suc i)) n))

-- The place where `x` stands among `f 0 .. f (n - 1)`, and `n` where it does not stand there.
unfoldable pub place : (ℕ → ℕ) → ℕ → ℕ → ℕ
place f n x = least (λ i. eqb (f i) x) n
