-- `lay_tops`: the greatest places of the columns before column c have been laid.
use mathlib.Core.Path.{sym, ap, ◌∙◌, subst}
use Prim.Native.Nat.{◌≤◌}
use native.Mathlib.Omega.{arith}
use lib.ListN.{length-set}
use borrow.Author.Count.{below_none}
use Rattle.pattern.specs.Pattern.{column}
use Rattle.pattern.specs.Places.{at}
use Rattle.pattern.specs.Rising.{Rising}
use Rattle.pattern.specs.Series.{greatest}
use Rattle.pattern.proofs.Greatest.{greatest_low}
use Rattle.pattern.proofs.Rises.{rising_below}
use Rattle.listing.specs.Formed.{parts_of}
use Rattle.listing.proofs.Listings.{good_column}
use Rattle.listing.proofs.Stores.{stored_more}
use Rattle.register.proofs.order.lay_tops.Goals as goal
use Rattle.register.proofs.order.lay_tops.Goals.{After-part}

pub loop-c-init : goal.loop-c-init
loop-c-init c = (omega arith, below_none _)

-- The rows of column c.
module _ (c : After-part) where
  rise : Rising c.args.columns.size c.part.result.now
  rise = subst (Rising c.args.columns.size) (sym c.part.ensures) (c.args.columns.good.formed.rise c.loop-c.c (omega arith))

  low : greatest (at c.args.places.now) c.part.result.now ≤ c.args.columns.size
  low = greatest_low (at c.args.places.now) c.part.result.now c.args.columns.size (λ x u. omega (arith, c.requires x (rising_below rise x u)))

pub overflow_cast-tops : goal.overflow_cast-tops
overflow_cast-tops c = omega (arith, c.top_place.ensures, low (goal.at.overflow_cast-tops c).After-part, c.args.columns.good.small)

pub loop-c-preserved : goal.loop-c-preserved
loop-c-preserved c =
    let l = c.loop-c in
    let places = c.args.places.now in
    let P = parts_of c.args.columns in (
      simp length-set l.invariant.0,
      stored_more (λ y. greatest (at places) (column P y)) l.tops l.c _ (omega (arith, c.args.columns.good.small))
          (c.top_place.ensures ∙ ap (greatest (at places)) (good_column c.args.columns.good l.c (omega arith) c.part.ensures))
          l.invariant.1,
    )

pub returns : goal.returns
returns c = λ y h. c.loop-c.invariant.1 y (omega arith)

pub top_place-requires : goal.top_place-requires
top_place-requires c = λ k h. omega (arith, (rise (goal.at.top_place-requires c).After-part).below k h, c.args.columns.good.small)
