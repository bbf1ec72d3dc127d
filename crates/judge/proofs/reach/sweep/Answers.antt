-- `sweep`: the places from `from` up to t have been swept.
use mathlib.Core.Path.{ap, ◌∙◌}
use Prim.Native.Nat.{◌<◌}
use native.Mathlib.Omega.{arith}
use Rattle.pattern.specs.Pattern.{column}
use Rattle.pattern.proofs.Tests.{true_T}
use Rattle.listing.specs.Formed.{parts_of}
use Rattle.listing.proofs.Listings.{good_column}
use Rattle.register.specs.Marks.{flagged}
use Rattle.judge.proofs.Sweeping.{sweeping_same, sweeping_more}
use Rattle.judge.proofs.reach.sweep.Goals as goal
use Rattle.judge.proofs.reach.sweep.Goals.{then-marks-t, else-marks-t}

pub loop-t-preserved : goal.loop-t-preserved
unfolding flagged
loop-t-preserved c =
    let G = c.args.rows.good in
    let h : c.loop-t.t < c.args.to = omega arith in
    elim c.if-marks-t.branch [
      | then-marks-t w ↦ (
        rw w.marks-is w.mark_places.ensures.0,
        λ col y L S W.
            let in_size : w.wide.result < c.args.rows.size = omega (arith, w.wide.ensures, c.requires.order_rows.1 c.loop-t.t (omega (arith, h, c.requires.window.1))) in
            let e = good_column G w.wide.result in_size w.part.ensures ∙ ap (column (parts_of c.args.rows)) w.wide.ensures in
            rw w.marks-is (sweeping_more G L S (omega (arith, h, c.requires.window.1)) (true_T w.if-marks-t.true) (c.loop-t.invariant.1 col y L S W) (rw e at w.mark_places.ensures.1)),
      )
      | else-marks-t w ↦ (rw w.marks-is c.loop-t.invariant.0, λ col y L S W. rw w.marks-is (sweeping_same G L S w.if-marks-t.false (c.loop-t.invariant.1 col y L S W)))
    ]
