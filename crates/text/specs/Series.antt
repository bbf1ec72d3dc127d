-- Things one after another, as bytes. Rests on nothing.
use Rattle.std.specs.Prelude.{List, [], ◌∷◌, ◌++◌, ℕ}

-- Things one after another. Each is written by `one`, which knows a number: `s` at the first thing, and from one thing to the
-- next what `after` makes of it.
unfoldable pub series : {A : Type 0} (one : ℕ → A → List ℕ) (after : ℕ → A → ℕ) (s : ℕ) → List A → List ℕ
series one after s [] = []
series one after s (x ∷ l) = one s x ++ series one after (after s x) l
