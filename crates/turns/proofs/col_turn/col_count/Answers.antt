-- `col_count`: what is heard says it.
use native.Mathlib.Omega.{arith}
use Rattle.turns.specs.Turns.{col_word}
use Rattle.turns.proofs.ColCounts.{unheard_count, other_count, own_count}
use Rattle.turns.proofs.col_turn.col_count.Goals as goal

pub returns-in_err-first : goal.returns-in_err-first
unfolding col_word
returns-in_err-first c = rw c.from_residual.ensures (unheard_count c.args.line.now c.args.column c.in_err-first.ensures)

pub returns-then-count-eq0 : goal.returns-then-count-eq0
unfolding col_word
returns-then-count-eq0 c =
    other_count c.args.line.now c.args.column c.in_ok-first.ensures
    (λ z e. omega (arith, c.then-count-eq0.either))

pub returns : goal.returns
unfolding col_word
returns c =
    own_count c.args.line.now c.args.column c.in_ok-first.ensures c.if-count-eq0.false c.if-first-column.false
