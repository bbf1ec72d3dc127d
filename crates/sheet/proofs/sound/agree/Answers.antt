-- `agree`: the columns before place `t` stand where they should.
use mathlib.Core.List.{List, []}
use mathlib.Core.Path.{◌≡◌, sym, ap, ◌∙◌}
use Prim.Native.Nat.{ℕ}
use native.Mathlib.Omega.{arith}
use borrow.Author.Count.{below_more}
use Rattle.pattern.specs.Places.{at as stands}
use Rattle.listing.proofs.Answers.{told_no}
use Rattle.sheet.specs.Passes.{thing}
use Rattle.sheet.specs.Reading.{order_at}
use Rattle.sheet.specs.Sheet.{seconds}
use Rattle.sheet.proofs.Rereads.{pair_known, PairMet, pair_met}
use Rattle.sheet.proofs.sound.agree.Goals as goal
use Rattle.sheet.proofs.sound.agree.Goals.{After-known_pair-pair}

-- Once the pair has been read: the turn, and what it met.
module _ (c : After-known_pair-pair) where
  abbrev o : List (ℕ × ℕ)
  o = thing [] (order_at c.args.bytes.now c.args.m c.args.place)

  met : PairMet c.args.bytes.now c.args.m c.args.place o c.loop-t.t
      c.known_pair-pair.result.row c.known_pair-pair.result.column c.known_pair-pair.result.next
  met = pair_met _ _ c.requires.0 c.loop-t.invariant.0 (omega arith) _ _ c.known_pair-pair.ensures

  -- The entry of the column that was read.
  stands_at : stands c.args.tops.now c.known_pair-pair.result.column ≡ stands c.args.tops.now (stands (seconds o) c.loop-t.t)
  stands_at = ap (stands c.args.tops.now) met.column_is

pub known_pair-pair-requires : goal.known_pair-pair-requires
known_pair-pair-requires c = pair_known _ _ c.requires.0 c.loop-t.invariant.0 (omega arith)

pub bounds-tops-pair : goal.bounds-tops-pair
bounds-tops-pair c = omega (arith, (met (goal.at.bounds-tops-pair c).After-known_pair-pair).column_below)

pub returns-then-tops-pair : goal.returns-then-tops-pair
returns-then-tops-pair c =
    told_no (λ all. c.if-tops-pair.true (stands_at (goal.at.returns-then-tops-pair c).After-known_pair-pair ∙ all c.loop-t.t (omega arith)))

pub loop-t-preserved : goal.loop-t-preserved
loop-t-preserved c =
    let after_known_pair_pair = (goal.at.loop-t-preserved c).After-known_pair-pair in
    ((met after_known_pair_pair).left, below_more _ _ c.loop-t.invariant.1 (sym (stands_at after_known_pair_pair) ∙ c.if-tops-pair.false))
