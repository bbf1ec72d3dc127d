-- `lay_order`: the numbers below x stand at their places.
use mathlib.Core.Path.{◌≡◌, ◌∙◌}
use Prim.Native.Nat.{◌<◌}
use native.Mathlib.Omega.{arith}
use lib.Seq.{get_or-take}
use Rattle.pattern.specs.Places.{at}
use Rattle.replace.proofs.Arranging.{laying_at_none, laying_at_more, laying_at_all, order_places}
use Rattle.replace.proofs.arrange.lay_order.Goals as goal
use Rattle.replace.proofs.arrange.lay_order.Goals.{After-wide}

-- The number's place, and that it is one.
module _ (c : After-wide) where
  place_is : c.wide.result ≡ at c.args.places.now c.loop-x.x
  place_is = c.wide.ensures ∙ get_or-take c.args.m c.args.places.now c.loop-x.x 0 (omega arith)

  place_in : c.wide.result < c.args.m
  place_in = omega (arith, place_is, c.requires.2 c.loop-x.x (omega arith))

pub loop-x-init : goal.loop-x-init
loop-x-init c = laying_at_none

pub offset_bounds-numbers-wide : goal.offset_bounds-numbers-wide
offset_bounds-numbers-wide c = omega (arith, place_in (goal.at.offset_bounds-numbers-wide c).After-wide)

pub bounds-numbers-wide : goal.bounds-numbers-wide
bounds-numbers-wide c = omega (arith, place_in (goal.at.bounds-numbers-wide c).After-wide, c.loop-x.invariant.kept.long, c.requires.1)

pub loop-x-preserved : goal.loop-x-preserved
loop-x-preserved c = laying_at_more (omega arith) (place_is (goal.at.loop-x-preserved c).After-wide) (place_in (goal.at.loop-x-preserved c).After-wide) c.requires.1 c.loop-x.invariant

pub returns : goal.returns
returns c = λ order e L.
    let n : c.loop-x.x ≡ c.args.m = omega arith in
    laying_at_all c.requires.1 (rw n at c.loop-x.invariant) order (order_places order e L)
