-- `enter`: the places of the numbers before place t have been entered.
use mathlib.Core.Path.{◌≡◌, ◌∙◌}
use Prim.Native.Nat.{◌<◌}
use native.Mathlib.Omega.{arith}
use lib.Seq.{length-take-le}
use Rattle.pattern.specs.Places.{at}
use Rattle.listing.proofs.Answers.{told_yes, told_no}
use Rattle.listing.proofs.Between.{first_at}
use Rattle.register.proofs.Orders.{entered_none, entered_twice, entered_more, entered_all}
use Rattle.register.proofs.order.enter.Goals as goal
use Rattle.register.proofs.order.enter.Goals.{After-wide-x}

-- The number at place t.
module _ (c : After-wide-x) where
  in_range : c.loop-t.t < c.args.m
  in_range = (first_at c.args.numbers.now c.requires.in_range.1 (omega arith)).0

  is_number : c.wide-x.result ≡ at c.args.numbers.now c.loop-t.t
  is_number = c.wide-x.ensures ∙ (first_at c.args.numbers.now c.requires.in_range.1 (omega arith)).1

pub loop-t-init : goal.loop-t-init
loop-t-init c = entered_none _ (omega arith) (λ x h. omega (arith, c.requires.none_placed x h))

pub returns-then-m-x-clause-told : goal.returns-then-m-x-clause-told
returns-then-m-x-clause-told c =
    let s = (goal.at.returns-then-m-x-clause-told c).After-wide-x in
    told_no (λ o. omega (arith, is_number s, o.below c.loop-t.t (in_range s)))

pub returns-then-places-x-lt-NOWHERE-clause-told : goal.returns-then-places-x-lt-NOWHERE-clause-told
returns-then-places-x-lt-NOWHERE-clause-told c =
    let s = (goal.at.returns-then-places-x-lt-NOWHERE-clause-told c).After-wide-x in
    told_no (entered_twice (at c.args.numbers.now) (omega arith) (in_range s) c.loop-t.invariant c.wide-x.result (is_number s) (omega arith) c.if-places-x-lt-NOWHERE.true)

pub loop-t-preserved : goal.loop-t-preserved
loop-t-preserved c =
    let s = (goal.at.loop-t-preserved c).After-wide-x in
    entered_more (at c.args.numbers.now) (omega arith) (in_range s) c.loop-t.invariant c.wide-x.result (is_number s) (omega arith) c.if-places-x-lt-NOWHERE.false

pub returns-clause-told : goal.returns-clause-told
returns-clause-told c =
    let e : c.loop-t.t ≡ c.args.m = omega (arith, length-take-le c.args.m c.args.numbers.now c.requires.in_range.1) in
    told_yes (entered_all (at c.args.numbers.now) (rw e at c.loop-t.invariant))
