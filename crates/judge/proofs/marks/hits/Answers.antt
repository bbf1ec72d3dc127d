-- `hits`: how many of the numbers gone through have a marked place.
use mathlib.Core.Bool.{Bool}
use mathlib.Core.Path.{◌≡◌, sym, ap, ◌∙◌}
use Prim.Native.Nat.{ℕ}
use native.Mathlib.Omega.{arith}
use Rattle.pattern.specs.Places.{at}
use Rattle.register.specs.Marks.{flagged}
use Rattle.judge.proofs.Counting.{counted_zero, counted_yes, counted_no}
use Rattle.judge.proofs.marks.hits.Goals as goal
use Rattle.judge.proofs.marks.hits.Goals.{then-marks-wide, else-marks-wide}

pub loop-x-init : goal.loop-x-init
loop-x-init c = (omega arith, sym (counted_zero _))

pub loop-x-preserved : goal.loop-x-preserved
unfolding flagged
loop-x-preserved c =
    let a = c.args in
    let k = c.loop-x.x-index in
    let test : ℕ → Bool = λ i. flagged a.marks.now (at a.places.now (at a.numbers.now i)) in
    let z : test k ≡ flagged a.marks.now c.wide-in-loop-x.result = ap (flagged a.marks.now) (sym (c.wide-in-loop-x.ensures ∙ ap (at a.places.now) c.wide.ensures)) in
    elim c.if-marks-wide.branch [
      | then-marks-wide w ↦ (omega arith, omega (arith, counted_yes test k (z ∙ w.if-marks-wide.true)))
      | else-marks-wide w ↦ (omega arith, omega (arith, counted_no test k (z ∙ w.if-marks-wide.false)))
    ]
