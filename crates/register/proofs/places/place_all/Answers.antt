-- `place_all`: the numbers before place t have their places.
use mathlib.Core.Path.{◌≡◌, sym, ap, ◌∙◌}
use Prim.Native.Nat.{◌<◌}
use native.Mathlib.Omega.{arith}
use lib.ListN.{set, length-set}
use lib.Seq.{length-take-le, get_or-set_same, get_or-set_other}
use borrow.Author.Count.{below_more}
use Rattle.pattern.specs.Places.{at}
use Rattle.listing.specs.Limits.{max_size}
use Rattle.listing.proofs.Between.{first_at}
use Rattle.register.proofs.Orders.{there_placed}
use Rattle.register.proofs.places.place_all.Goals as goal
use Rattle.register.proofs.places.place_all.Goals.{After-wide}

-- The number at place t.
module _ (c : After-wide) where
  in_range : c.loop-t.t < c.args.m
  in_range = (first_at c.args.numbers.now c.requires.1 (omega arith)).0

  is_number : c.wide.result ≡ at c.args.numbers.now c.loop-t.t
  is_number = c.wide.ensures ∙ (first_at c.args.numbers.now c.requires.1 (omega arith)).1

  number_in : c.wide.result < max_size
  number_in = omega (arith, is_number, c.requires.2.below c.loop-t.t in_range, c.requires.0)

pub loop-t-init : goal.loop-t-init
loop-t-init c = (omega arith, λ s h. absurd (omega arith))

pub loop-t-preserved : goal.loop-t-preserved
loop-t-preserved c =
    let s = (goal.at.loop-t-preserved c).After-wide in
    let l = c.loop-t in
    let f = at c.args.numbers.now in (
      length-set l.places c.wide.result l.t ∙ l.invariant.0,
      below_more _ _
          (λ i h. get_or-set_other l.places c.wide.result (f i) l.t 0 (λ z. omega (arith, c.requires.2.once i l.t (omega (arith, in_range s)) (in_range s) (z ∙ is_number s))) ∙ l.invariant.1 i h)
          (ap (at (set l.places c.wide.result l.t)) (sym (is_number s)) ∙ get_or-set_same l.places c.wide.result l.t 0 (omega (arith, l.invariant.0, number_in s))),
    )

pub returns : goal.returns
returns c =
    let n = length-take-le c.args.m c.args.numbers.now c.requires.1 in
    there_placed (at c.args.numbers.now) c.loop-t.invariant.0 c.requires.2 (λ t h. c.loop-t.invariant.1 t (omega (arith, n)))
