-- `mark_places`: the places of the numbers gone through are marked.
use mathlib.Core.Bool.{true}
use mathlib.Core.Path.{ap, ◌∙◌}
use native.Mathlib.Omega.{arith}
use lib.ListN.{length-set}
use Rattle.pattern.specs.Places.{at}
use Rattle.judge.proofs.Bools.{stored_flag}
use Rattle.judge.proofs.Marking.{marking_more}
use Rattle.judge.proofs.marks.mark_places.Goals as goal

pub loop-x-preserved : goal.loop-x-preserved
loop-x-preserved c =
    let a = c.args in
    let l = c.loop-x in
    let i = c.wide-in-loop-x.result in
    let e = c.wide-in-loop-x.ensures ∙ ap (at a.places.now) c.wide.ensures in (
      length-set l.marks i true ∙ l.invariant.0,
      marking_more (at a.places.now) a.numbers.now l.x-index i (omega arith) e l.invariant.1 (stored_flag l.marks i (omega (arith, e, (c.requires l.x-index (omega arith)).1)) l.invariant.0),
    )
