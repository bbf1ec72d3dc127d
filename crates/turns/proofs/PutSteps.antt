-- What the line 'put c rows' makes of a run, from the replacement and what was printed. Rests on Makings.antt, `listing`, `text`,
-- `judge`, `replace` and `replies`.
use mathlib.Core.List.{List, ◌∷◌}
use mathlib.Core.Path.{◌≡◌, ap₂, subst}
use Prim.Native.Nat.{ℕ, ◌+◌}
use Rattle.listing.specs.Held.{over}
use Rattle.text.specs.Prints.{Prints}
use Rattle.text.specs.Text.{Speaks}
use Rattle.text.specs.declared.output.Output.{Output}
use Rattle.judge.specs.Call.{call}
use Rattle.replace.specs.Replace.{Outcome, Replaces}
use Rattle.replies.specs.Replies.{put_reply, put_word}
use Rattle.turns.specs.Steps.{Makes}
use Rattle.turns.specs.Turns.{lent, Run, state, run, after, line_so_far, LineDoes}
use Rattle.turns.specs.declared.State.{State}
use Rattle.turns.specs.declared.Turn.TheVariants as turn
use Rattle.turns.proofs.Makings.{makes_taken}

-- The rows are handed over as a part of the numbers that the line left.
pub makes_put : (r : Run) (m first : ℕ) (rows : List ℕ) {part numbers : List ℕ} {o : Outcome} {s : State} {out out' : Output} → Speaks (line_so_far r) put_word (first ∷ rows)
    → part ≡ rows → numbers ≡ over (first ∷ rows) r.lent.numbers → Replaces (call m r.lent.lists first part r.lent.eta) o
    → s ≡ state (turn.Put m) (r.state.number + 1) 0 → Prints (put_reply m first o) out out'
    → Makes (LineDoes (turn.Put m) r) out (run s (lent o.lists o.eta numbers r.lent.line)) out'
makes_put r m first rows {o = o} h p n x e q =
    makes_taken r (first, rows) (put_reply m first o) h (
      o,
      subst (λ (new : List ℕ). Replaces (call m r.lent.lists first new r.lent.eta) o) p x,
      ap₂ (λ (s : State) (numbers : List ℕ). after (run s (lent o.lists o.eta numbers r.lent.line)) (put_reply m first o)) e n,
    ) q
