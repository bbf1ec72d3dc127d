-- What the start after the last column makes of a run where the columns fit and the register does not refuse. Rests on
-- specs/Steps.antt and Makings.antt.
use mathlib.Core.Bool.{Bool, true}
use mathlib.Core.List.{List, []}
use mathlib.Core.Path.{◌≡◌, sym, subst}
use Prim.Native.Nat.{ℕ, ◌+◌}
use Rattle.text.specs.Prints.{Prints}
use Rattle.text.specs.declared.output.Output.{Output}
use Rattle.register.specs.Lent.{Lists}
use Rattle.register.specs.Start.{started, StartsWith}
use Rattle.turns.specs.Steps.{Makes}
use Rattle.turns.specs.Turns.{Run, state, run, after, with_numbers, StartDoes}
use Rattle.turns.specs.declared.State.{State}
use Rattle.turns.specs.declared.Turn.TheVariants as turn
use Rattle.turns.proofs.Makings.{same_after}

-- The run has the numbers of the line, and the register's lists are changed.
pub start_sound : (r : Run) (m : ℕ) (new : List ℕ) (l : Lists) {l' : Lists} {fits : Bool} {s : State} {out out' : Output} → fits ≡ true
    → StartsWith m l (started 0 l') → s ≡ state (turn.Put m) (r.state.number + 1) 0 → Prints [] out out'
    → Makes (StartDoes r m new l fits) out (run s (with_numbers r.lent new l' r.lent.eta)) out'
start_sound r m new l {l'} {fits} {s} e w q p =
    let now = with_numbers r.lent new l' r.lent.eta in
    record { said = []; does = subst (λ (b : Bool). StartDoes r m new l b (after (run s now) [])) (sym e) (started 0 l', w, same_after now [] q); prints = p }
