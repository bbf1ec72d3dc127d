-- `put_places`: the places before this one are printed.
use mathlib.Core.List.{List}
use mathlib.Core.Path.{◌≡◌, ap, ap₂, ◌∙◌}
use Prim.Native.Nat.{ℕ, ◌<◌}
use native.Mathlib.Omega.{arith}
use borrow.Author.Rules.{rules}
use lib.ListN.{length, take, get_or, length-append}
use lib.Seq.{get_or-take, length-take-le}
use Rattle.pattern.specs.Places.{at}
use Rattle.pattern.specs.Order.{pairs}
use Rattle.pattern.proofs.Pairs.{pairs_length, pair_is}
use Rattle.std.proofs.lemmas.Slice.Zip.{zip_turn, zip_end}
use Rattle.text.proofs.Printing.{printing_more, printing_room}
use Rattle.text.proofs.Progress.{gone_all}
use Rattle.replies.specs.Replies.{place_text}
use Rattle.replies.proofs.places.put_places.Goals as goal
use Rattle.replies.proofs.places.put_places.Goals.{In-Some}

-- At the place of the turn.
module _ (c : In-Some) where
  abbrev order : List (ℕ × ℕ)
  order = pairs c.args.m c.args.rows.now c.args.cols.now

  abbrev t : ℕ
  t = length c.loop-row.yielded

  turn : (t < length (take c.args.m c.args.rows.now)) × (t < length (take c.args.m c.args.cols.now)) × ((d : ℕ) → c.in-Some.row.now ≡ get_or (take c.args.m c.args.rows.now) t d) × ((d : ℕ) → c.in-Some.col.now ≡ get_or (take c.args.m c.args.cols.now) t d)
  turn =
      zip_turn (take c.args.m c.args.rows.now) (take c.args.m c.args.cols.now) c.loop-row.yielded c.into_iter-row-iterator.result c.loop-row.row-iterator c.next.new.self c.next.result
      (search rules) (search rules) c.loop-row.yielded_by (c.in-Some.row, c.in-Some.col) c.in-Some.is c.next.ensures.steps

  before : t < c.args.m
  before = omega (arith, turn.0, length-take-le c.args.m c.args.rows.now c.requires.0)

  within : t < length order
  within = omega (arith, before, pairs_length c.args.m c.args.rows.now c.args.cols.now)

  met : get_or order t (0, 0) ≡ (c.in-Some.row.now, c.in-Some.col.now)
  met =
      let r : at c.args.rows.now t ≡ c.in-Some.row.now = cc (turn.2 0, get_or-take c.args.m c.args.rows.now t 0 before) in
      let k : at c.args.cols.now t ≡ c.in-Some.col.now = cc (turn.3 0, get_or-take c.args.m c.args.cols.now t 0 before) in
      pair_is c.args.m c.args.rows.now c.args.cols.now t before ∙ ap₂ (λ (x y : ℕ). (x, y)) r k

pub put_place-requires : goal.put_place-requires
put_place-requires c =
    let w = (goal.at.put_place-requires c).In-Some in
    rw (c.from.ensures, c.from-in-loop-row.ensures)
    (omega (arith, printing_room c.loop-row.invariant (0, 0) (within w) c.requires.2, ap (λ (x : ℕ × ℕ). length (place_text 0 x)) (met w)))

pub loop-row-preserved : goal.loop-row-preserved
loop-row-preserved c =
    let w = (goal.at.loop-row-preserved c).In-Some in
    rw length-append
    (printing_more c.loop-row.invariant (0, 0) (within w) c.requires.2 (rw (met w, ← c.from.ensures, ← c.from-in-loop-row.ensures) c.put_place.ensures))

pub returns : goal.returns
returns c =
    let a = c.args in
    let e = zip_end (take a.m a.rows.now) (take a.m a.cols.now) c.loop-row.yielded c.into_iter-row-iterator.result c.loop-row.row-iterator c.next.new.self c.next.result
    (search rules) (search rules) c.loop-row.yielded_by c.in-None.is c.next.ensures.steps in
    gone_all c.loop-row.invariant (omega (arith, e, length-take-le a.m a.rows.now c.requires.0, length-take-le a.m a.cols.now c.requires.1, pairs_length a.m a.rows.now a.cols.now))
