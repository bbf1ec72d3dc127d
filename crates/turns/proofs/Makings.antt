-- What a line makes of a run, from what was heard of it and what was printed. Rests on specs/Steps.antt.
use mathlib.Core.List.{List}
use mathlib.Core.Path.{◌≡◌, ap}
use Prim.Native.Nat.{ℕ}
use native.Mathlib.Omega.{arith}
use lib.ListN.{length, take}
use lib.Seq.{length-take-le}
use Rattle.text.specs.Prints.{Prints}
use Rattle.text.specs.Text.{Speaks}
use Rattle.text.specs.declared.output.Output.{Output}
use Rattle.replies.specs.Replies.{bad_line}
use Rattle.turns.specs.Steps.{Steady, Makes}
use Rattle.turns.specs.Turns.{Lent, Run, state, run, After, after, line_so_far, InTurn, taken, other}
use Rattle.turns.specs.declared.State.{State}
use Rattle.turns.specs.declared.Turn.TheVariants as turn

-- As many bytes of the line are read as are in use.
pub steady_length : {s : State} {line : List ℕ} {out : Output} → Steady s line out → length (take s.used line) ≡ s.used
steady_length {s} {line} p = length-take-le s.used line (omega (arith, p.line_short, p.line_long))

-- The same state, with the same lists and the same text.
pub same_after : {s s' : State} (l : Lent) (said : List ℕ) → s ≡ s' → after (run s l) said ≡ after (run s' l) said
same_after l said e = ap (λ (s : State). after (run s l) said) e

module _ {A : Type 0} {word : List ℕ} {numbers : A → List ℕ} {Does : A → After → Type 0} (r : Run) {out out' : Output} where
  -- A line that is not the word with the numbers of some `x`.
  pub makes_bad : {s : State} → ((x : A) → ¬ Speaks (line_so_far r) word (numbers x)) → s ≡ state turn.Ended r.state.number r.state.used
      → Prints (bad_line r.state.number) out out' → Makes (InTurn word numbers Does r) out (run s r.lent) out'
  makes_bad n e p = record { said = bad_line r.state.number; does = other n (same_after r.lent (bad_line r.state.number) e); prints = p }

  -- One that is.
  pub makes_taken : {r' : Run} (x : A) (said : List ℕ) → Speaks (line_so_far r) word (numbers x) → Does x (after r' said) → Prints said out out'
      → Makes (InTurn word numbers Does r) out r' out'
  makes_taken x said s d p = record { said = said; does = taken x s d; prints = p }
