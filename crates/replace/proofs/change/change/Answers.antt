-- `change`: the judgment, and what each verdict changes.
use mathlib.Core.Path.{refl, ◌∙◌}
use Rattle.register.specs.Loan.{held}
use Rattle.register.proofs.Orders.{placed_below}
use Rattle.judge.specs.Call.{call}
use Rattle.judge.specs.Judge.{Judges}
use Rattle.replace.proofs.Changes.{told_permuted, told_elimination, permuted_answered, cleared_answered}
use Rattle.replace.proofs.change.change.Goals as goal
use Rattle.replace.proofs.change.change.Goals.{After-judge-judgment}

-- The judgment is on the caller's lists.
judged : (c : After-judge-judgment) → Judges (call c.args.m (held c.args.lists.now) c.args.c c.args.new.now c.args.eta.now)
    c.judge-judgment.new.scratch.row_places c.judge-judgment.new.scratch.col_places c.judge-judgment.new.eta c.judge-judgment.result
judged c = rw c.view.ensures at c.judge-judgment.ensures

pub permute-requires-clause-places_low : goal.permute-requires-clause-places_low
permute-requires-clause-places_low c =
    let k = told_permuted c.in-Permuted.is c.judge-judgment.ensures in
    (placed_below k.rows_placed, placed_below k.cols_placed)

pub clear-requires-clause-choice_left : goal.clear-requires-clause-choice_left
clear-requires-clause-choice_left c =
    (told_elimination c.in-Elimination.is (judged (goal.at.clear-requires-clause-choice_left c).After-judge-judgment)).right.not_singular

pub returns-in-Permuted-clause-answered : goal.returns-in-Permuted-clause-answered
returns-in-Permuted-clause-answered c =
    let k = told_permuted c.in-Permuted.is (judged (goal.at.returns-in-Permuted-clause-answered c).After-judge-judgment) in
    permuted_answered c.requires.judgeable.0 c.in-Permuted.is k c.permute.ensures.permutes

pub returns-in-Elimination-clause-answered : goal.returns-in-Elimination-clause-answered
returns-in-Elimination-clause-answered c =
    let k = told_elimination c.in-Elimination.is (judged (goal.at.returns-in-Elimination-clause-answered c).After-judge-judgment) in
    let p_is = c.wide-p.ensures ∙ c.requires.placed.0.stand c.args.c c.requires.judgeable.0.column_below in
    cleared_answered c.requires.judgeable.0 refl p_is k c.clear.ensures.clears
