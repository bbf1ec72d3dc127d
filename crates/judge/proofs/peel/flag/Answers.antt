-- `flag`: some of the new rows have been gone through.
use Prim.Native.Nat.{◌<◌}
use native.Mathlib.Omega.{arith}
use Rattle.judge.proofs.NewRows.{flagging_more, flagging_same}
use Rattle.judge.proofs.peel.flag.Goals as goal
use Rattle.judge.proofs.peel.flag.Goals.{then-places-x-eq-NOWHERE, else-places-x-eq-NOWHERE}

pub loop-row-preserved : goal.loop-row-preserved
loop-row-preserved c =
    let l = c.loop-row in
    let low : c.wide-x.result < 1000 = omega (arith, c.requires l.row-index (omega arith)) in
    elim c.if-places-x-eq-NOWHERE.branch [
      | then-places-x-eq-NOWHERE v ↦ rw v.places-is (flagging_more (omega arith) c.wide-x.ensures low l.invariant v.if-places-x-eq-NOWHERE.true)
      | else-places-x-eq-NOWHERE v ↦ rw v.places-is (flagging_same (omega arith) c.wide-x.ensures low l.invariant v.if-places-x-eq-NOWHERE.false)
    ]
