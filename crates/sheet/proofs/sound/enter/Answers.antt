-- `enter`: the places of the rows before place `t` have been entered.
use mathlib.Core.List.{List, []}
use mathlib.Core.Path.{◌≡◌}
use Prim.Native.Nat.{ℕ}
use native.Mathlib.Omega.{arith}
use Rattle.pattern.specs.Places.{at as stands}
use Rattle.listing.proofs.Answers.{told_yes, told_no}
use Rattle.register.proofs.Orders.{entered_twice, entered_more, entered_all}
use Rattle.sheet.specs.Passes.{thing}
use Rattle.sheet.specs.Reading.{order_at}
use Rattle.sheet.specs.Sheet.{firsts}
use Rattle.sheet.proofs.Rereads.{pair_known, PairMet, pair_met}
use Rattle.sheet.proofs.sound.enter.Goals as goal
use Rattle.sheet.proofs.sound.enter.Goals.{After-known_pair-pair}

-- Once the pair has been read: the turn, and what it met.
module _ (c : After-known_pair-pair) where
  abbrev o : List (ℕ × ℕ)
  o = thing [] (order_at c.args.bytes.now c.args.m c.args.place)

  met : PairMet c.args.bytes.now c.args.m c.args.place o c.loop-t.t
      c.known_pair-pair.result.row c.known_pair-pair.result.column c.known_pair-pair.result.next
  met = pair_met _ _ c.requires.got.0 c.loop-t.invariant.0 (omega arith) _ _ c.known_pair-pair.ensures

pub known_pair-pair-requires : goal.known_pair-pair-requires
known_pair-pair-requires c = pair_known _ _ c.requires.got.0 c.loop-t.invariant.0 (omega arith)

pub bounds-places-pair : goal.bounds-places-pair
bounds-places-pair c = omega (arith, (met (goal.at.bounds-places-pair c).After-known_pair-pair).row_below)

pub returns-then-places-pair-lt-NOWHERE : goal.returns-then-places-pair-lt-NOWHERE
returns-then-places-pair-lt-NOWHERE c =
    let after_known_pair_pair = (goal.at.returns-then-places-pair-lt-NOWHERE c).After-known_pair-pair in
    told_no (entered_twice (stands (firsts (o after_known_pair_pair))) (omega arith) (omega arith) c.loop-t.invariant.1 _ (met after_known_pair_pair).row_is (met after_known_pair_pair).row_below c.if-places-pair-lt-NOWHERE.true)

pub loop-t-preserved : goal.loop-t-preserved
loop-t-preserved c =
    let after_known_pair_pair = (goal.at.loop-t-preserved c).After-known_pair-pair in (
      (met after_known_pair_pair).left,
      entered_more (stands (firsts (o after_known_pair_pair))) (omega arith) (omega arith) c.loop-t.invariant.1 _ (met after_known_pair_pair).row_is (met after_known_pair_pair).row_below c.if-places-pair-lt-NOWHERE.false,
    )

pub returns : goal.returns
returns c =
    let e : c.loop-t.t ≡ c.args.m = omega arith in
    told_yes (entered_all _ (rw e at c.loop-t.invariant.1))
