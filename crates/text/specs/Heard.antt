-- What is heard of a line, for the contracts of the steps of `lines`. Rests on Text.antt.
use Rattle.std.specs.Prelude.{List, ◌≡◌, ℕ, length, Option, Some, None}
use Rattle.pattern.specs.Places.{at}
use Rattle.text.specs.Text.{Speaks}
use Rattle.text.specs.declared.lines.Heard.{Heard}

-- The line says some numbers after the word.
abbrev pub SaysSome : (word line : List ℕ) → Type 0
SaysSome word line = (l : List ℕ) × Speaks line word l

-- What is heard is right: the first of the numbers that the line says and how many there are, or that it says none.
abbrev pub Hears : (word line : List ℕ) → Option Heard → Type 0
Hears word line (Some h) = (l : List ℕ) × Speaks line word l × (h.first ≡ at l 0) × (h.count ≡ length l)
Hears word line None = ¬ SaysSome word line
