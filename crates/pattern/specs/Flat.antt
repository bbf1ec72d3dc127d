-- The parts of a listing one after another, and where each starts. Rests on Pattern.antt and Series.antt.
use Rattle.std.specs.Prelude.{List, [], ◌∷◌, ◌++◌, ℕ, ◌+◌, length}
use Rattle.pattern.specs.Pattern.{column}
use Rattle.pattern.specs.Series.{each, tally}

-- The parts one after another.
abbrev pub flat : List (List ℕ) → List ℕ
flat [] = []
flat (l ∷ P) = l ++ flat P

-- Start `k`: how many numbers the parts before part `k` have.
abbrev pub start_of : List (List ℕ) → ℕ → ℕ
start_of P k = tally (λ i. length (column P i)) k

-- The starts of the parts, and last the total.
abbrev pub starts_of : List (List ℕ) → List ℕ
starts_of P = each (start_of P) (length P + 1)
