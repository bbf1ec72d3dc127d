-- `order_line`: a size in the limits, another number alone, or any other line.
use mathlib.Core.List.{[], ◌∷◌}
use native.Mathlib.Omega.{arith}
use lib.ListN.{take}
use Rattle.pattern.specs.Ladder.{fails, holds}
use Rattle.text.specs.Text.{Speaks}
use Rattle.text.proofs.HeardNumbers.{heard_are, heard_alone}
use Rattle.text.proofs.Printing.{prints_none}
use Rattle.replies.specs.Replies.{start_refused}
use Rattle.turns.specs.Turns.{order_word}
use Rattle.turns.proofs.Makings.{same_after, makes_bad, makes_taken}
use Rattle.turns.proofs.order_turn.order_line.Goals as goal
use Rattle.turns.proofs.order_turn.order_line.Goals.{Else-count-ne1}

-- No numbers were heard.
pub returns-in_default : goal.returns-in_default
unfolding order_word
returns-in_default c =
    let b = c.bad.ensures in
    λ cr rs rc or oc eta numbers. makes_bad _ (λ x s. c.in_default.ensures (x ∷ [], s)) b.0 b.1

-- More or fewer than one.
pub returns-then-count-ne1 : goal.returns-then-count-ne1
unfolding order_word
returns-then-count-ne1 c =
    let b = c.bad-then-count-ne1.ensures in
    λ cr rs rc or oc eta numbers. makes_bad _ (λ x s. c.if-count-ne1.true (heard_are order_word (take c.args.state.used c.args.line.now) c.in-Some.ensures s).1) b.0 b.1

-- One number alone.
alone : (c : Else-count-ne1) → Speaks (take c.args.state.used c.args.line.now) order_word (c.in-Some.field-0.first ∷ [])
unfolding order_word
alone c = heard_alone order_word (take c.args.state.used c.args.line.now) c.in-Some.ensures c.if-count-ne1.false

pub returns-then-size-eq0 : goal.returns-then-size-eq0
returns-then-size-eq0 c =
    let b = c.refuse.ensures in
    λ cr rs rc or oc eta numbers. makes_taken _ c.in-Some.field-0.first (start_refused 1) (alone (goal.at.returns-then-size-eq0 c).Else-count-ne1) (fails (λ s. omega (arith, s, c.then-size-eq0.either)) (same_after _ _ b.0)) (rw c.number.ensures at b.1)

pub returns : goal.returns
returns c =
    λ cr rs rc or oc eta numbers. makes_taken _ c.in-Some.field-0.first [] (alone (goal.at.returns c).Else-count-ne1) (holds (omega arith) (same_after _ _ c.next_line.ensures)) (prints_none _)
