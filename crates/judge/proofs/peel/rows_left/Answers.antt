-- `rows_left`: how many of the rows gone through have no place.
use mathlib.Core.Bool.{Bool}
use mathlib.Core.Path.{sym, ap}
use Prim.Native.Nat.{ℕ}
use native.Mathlib.Omega.{arith}
use lib.Dec.{leb, leb→le, le→leb}
use Rattle.pattern.specs.Places.{at}
use Rattle.pattern.proofs.Tests.{T_true, T_false}
use Rattle.listing.specs.Limits.{max_size}
use Rattle.judge.proofs.Counting.{counted_zero, counted_yes, counted_no}
use Rattle.judge.proofs.peel.rows_left.Goals as goal
use Rattle.judge.proofs.peel.rows_left.Goals.{then-places-wide-ge-NOWHERE, else-places-wide-ge-NOWHERE}

pub loop-x-init : goal.loop-x-init
loop-x-init c = (omega arith, sym (counted_zero _))

pub loop-x-preserved : goal.loop-x-preserved
loop-x-preserved c =
    let a = c.args in
    let k = c.loop-x.x-index in
    let test : ℕ → Bool = λ i. leb max_size (at a.places.now (at a.rows.now i)) in
    let z = ap (at a.places.now) c.wide.ensures in
    elim c.if-places-wide-ge-NOWHERE.branch [
      | then-places-wide-ge-NOWHERE v ↦ (omega arith, omega (arith, counted_yes test k (T_true (test k) (le→leb max_size (at a.places.now (at a.rows.now k)) (omega (arith, z, v.if-places-wide-ge-NOWHERE.true))))))
      | else-places-wide-ge-NOWHERE v ↦ (omega arith, omega (arith, counted_no test k (T_false (test k) (λ t. omega (arith, z, v.if-places-wide-ge-NOWHERE.false, leb→le max_size (at a.places.now (at a.rows.now k)) t)))))
    ]
