-- The dictionary order, and the order that leads all sound orders. Rests on Order.antt.
use Rattle.std.specs.Prelude.{◌⊎◌, ℕ, ◌<◌}
use Rattle.pattern.specs.Order.{Sound}
use Rattle.pattern.specs.Pattern.{Pattern}
use Rattle.pattern.specs.Places.{Same}

-- Of two rows of `m` numbers `a` is before `b`: at the first place where they differ, `a` has the smaller number.
abbrev pub Before : ℕ → (ℕ → ℕ) → (ℕ → ℕ) → Type 0
Before m a b = (i : ℕ) × (i < m) × Same i a b × (a i < b i)

-- `a` is the same as `b`, or before it.
abbrev pub NotAfter : ℕ → (ℕ → ℕ) → (ℕ → ℕ) → Type 0
NotAfter m a b = Same m a b ⊎ Before m a b

-- The order that is first: it is sound and, each column read as its key, no sound order is before it.
pub record Leading (E : Pattern) (m : ℕ) (key row col : ℕ → ℕ) : Type 0 where
  pub sound : Sound E m row col
  pub leads : (row' col' : ℕ → ℕ) → Sound E m row' col' → NotAfter m (λ i. key (col i)) (λ i. key (col' i))
