-- What a step of a run makes, for the contracts of the steps of `bytes` and of the turns. Rests on Turns.antt, `text` and
-- `replies`.
use Rattle.std.specs.Prelude.{List, ◌∷◌, ◌≡◌, ℕ, ◌≤◌, ◌<◌, length, Option, Some, None}
use Rattle.text.specs.Prints.{HasRoom, Prints}
use Rattle.text.specs.Text.{max_count, max_line, Speaks}
use Rattle.text.specs.declared.output.Output.{Output}
use Rattle.replies.specs.Replies.{max_reply}
use Rattle.turns.specs.Turns.{col_word, Run, After, after}
use Rattle.turns.specs.declared.State.{State}

-- A line list and an output that have room for a step.
pub record Steady (s : State) (line : List ℕ) (out : Output) : Type 0 where
  pub line_long : max_line ≤ length line
  pub line_short : s.used ≤ max_line
  pub countable : s.number < max_count
  pub room : HasRoom max_reply out

-- What a step gives back: something comes of it, and what that says has been printed.
pub record Makes (Does : After → Type 0) (out : Output) (r' : Run) (out' : Output) : Type 0 where
  pub said : List ℕ
  pub does : Does (after r' said)
  pub prints : Prints said out out'

-- How many numbers the line 'col c rows' has; or that it is no such line.
abbrev pub ColCount : (line : List ℕ) (c : ℕ) → Option ℕ → Type 0
ColCount line c (Some n) = (rows : List ℕ) × Speaks line col_word (c ∷ rows) × (n ≡ length (c ∷ rows))
ColCount line c None = (rows : List ℕ) → ¬ Speaks line col_word (c ∷ rows)
