-- `lay`: the numbers below x whose place is marked, but for place p, have been written.
use mathlib.Core.Path.{◌≡◌, refl, sym, ap, ◌∙◌}
use Prim.Native.Nat.{ℕ, ◌<◌}
use native.Mathlib.Omega.{arith}
use lib.ListN.{length, length-take}
use Rattle.std.proofs.lemmas.List.{get_or-take}
use Rattle.pattern.specs.Places.{at}
use Rattle.register.specs.Marks.{flagged}
use Rattle.judge.specs.Reach.{stands_at}
use Rattle.judge.proofs.Numbered.{lain_none, lain_room, lain_more, lain_same, stands_here, stands_off, stands_but}
use Rattle.judge.proofs.marks.lay.Goals as goal
use Rattle.judge.proofs.marks.lay.Goals.{then-marks-t+then-t-p, else-marks-t, else-marks-t-via-then-marks-t+else-t-p, else-marks-t-via-else-marks-t}

pub loop-x-init : goal.loop-x-init
loop-x-init c = lain_none _ _

pub loop-x-preserved : goal.loop-x-preserved
unfolding flagged
loop-x-preserved c =
    let a = c.args in
    let L = c.loop-x.invariant in
    let x = c.loop-x.x in
    let p = flagged a.marks.now in
    let f = at a.places.now in
    let test = stands_at p f a.p in
    let below : x < a.m = omega (arith, length-take {A = ℕ}) in
    let place_is : c.wide-t.result ≡ f x = c.wide-t.ensures ∙ get_or-take a.m a.places.now x 0 below in
    let in_list : x < length a.list.now = omega (arith, c.requires.1) in
    let z : p (f x) ≡ p c.wide-t.result = ap p (sym place_is) in
    elim c.if-marks-t.branch [
      | then-marks-t+then-t-p v ↦ rw (v.list-is, v.n-is) (lain_more test a.list.now L in_list (stands_here p f a.p x (z ∙ v.if-marks-t.true) (λ e. v.if-t-p.true (place_is ∙ e))) x refl)
      | else-marks-t v ↦ rw (v.list-is, v.n-is) (lain_same test a.list.now L (elim v.else-marks-t.branch [
        | else-marks-t-via-then-marks-t+else-t-p w ↦ stands_but p f a.p x (z ∙ w.if-marks-t.true) (sym place_is ∙ w.if-t-p.false)
        | else-marks-t-via-else-marks-t w ↦ stands_off p f a.p x (z ∙ w.if-marks-t.false)
      ]))
    ]

pub bounds-list-n : goal.bounds-list-n
bounds-list-n c =
    let in_list : c.loop-x.x < length c.args.list.now = omega (arith, c.requires.1, length-take {A = ℕ}) in
    omega (arith, lain_room _ _ c.loop-x.invariant in_list)
