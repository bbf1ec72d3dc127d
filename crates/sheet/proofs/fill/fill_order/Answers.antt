-- `fill_order`: the rows and the columns of the first `t` places have been stored.
use mathlib.Core.List.{List, []}
use mathlib.Core.Path.{◌≡◌, ◌∙◌}
use Prim.Native.Nat.{ℕ}
use native.Mathlib.Omega.{arith}
use lib.ListN.{length, length-map}
use borrow.Author.Rules.{rules}
use Rattle.listing.proofs.Storing.{stored_more, stored_all}
use Rattle.sheet.specs.Passes.{thing}
use Rattle.sheet.specs.Reading.{order_at}
use Rattle.sheet.specs.Sheet.{firsts, seconds}
use Rattle.sheet.proofs.Lefts.{left_long}
use Rattle.sheet.proofs.Rereads.{pair_known, PairMet, pair_met}
use Rattle.sheet.proofs.fill.fill_order.Goals as goal
use Rattle.sheet.proofs.fill.fill_order.Goals.{After-known_pair-pair, At-loop-t}

-- There are as many rows, and columns, as places.
module _ (l : At-loop-t) where
  abbrev o : List (ℕ × ℕ)
  o = thing [] (order_at l.args.bytes.now l.args.m l.args.place)

  rows_long : length (firsts o) ≡ l.args.m
  rows_long = length-map o (λ (p : ℕ × ℕ). p.0) ∙ left_long l.loop-t.invariant.0

  cols_long : length (seconds o) ≡ l.args.m
  cols_long = length-map o (λ (p : ℕ × ℕ). p.1) ∙ left_long l.loop-t.invariant.0

-- Once the pair has been read: the turn, and what it met.
module _ (c : After-known_pair-pair) where
  met : PairMet c.args.bytes.now c.args.m c.args.place (o (goal.at.After-known_pair-pair c).At-loop-t) c.loop-t.t
      c.known_pair-pair.result.row c.known_pair-pair.result.column c.known_pair-pair.result.next
  met = pair_met _ _ c.requires.0 c.loop-t.invariant.0 (omega arith) _ _ c.known_pair-pair.ensures

pub known_pair-pair-requires : goal.known_pair-pair-requires
known_pair-pair-requires c = pair_known _ _ c.requires.0 c.loop-t.invariant.0 (omega arith)

pub overflow_cast-rows : goal.overflow_cast-rows
overflow_cast-rows c = let b = (met (goal.at.overflow_cast-rows c).After-known_pair-pair).row_below in search rules

pub overflow_cast-cols : goal.overflow_cast-cols
overflow_cast-cols c = let b = (met (goal.at.overflow_cast-cols c).After-known_pair-pair).column_below in search rules

pub loop-t-preserved : goal.loop-t-preserved
loop-t-preserved c =
    let after_known_pair_pair = (goal.at.loop-t-preserved c).After-known_pair-pair in
    let at_loop_t = (goal.at.loop-t-preserved c).At-loop-t in (
      (met after_known_pair_pair).left,
      stored_more _ _ (omega (arith, rows_long at_loop_t)) (omega (arith, rows_long at_loop_t, c.requires.2)) (omega arith) (met after_known_pair_pair).row_is c.loop-t.invariant.1,
      stored_more _ _ (omega (arith, cols_long at_loop_t)) (omega (arith, cols_long at_loop_t, c.requires.3)) (omega arith) (met after_known_pair_pair).column_is c.loop-t.invariant.2,
    )

pub returns : goal.returns
returns c =
    let at_loop_t = (goal.at.returns c).At-loop-t in
    (stored_all (omega (arith, rows_long at_loop_t)) c.loop-t.invariant.1, stored_all (omega (arith, cols_long at_loop_t)) c.loop-t.invariant.2)
