-- `put_order`: as many pairs as the loop has gone through are put.
use mathlib.Core.List.{List, ◌++◌}
use Prim.Native.Nat.{ℕ, ◌+◌}
use native.Mathlib.Omega.{arith}
use lib.ListN.{length, take, get_or}
use Rattle.std.proofs.lemmas.List.{length_push}
use Rattle.std.proofs.lemmas.Slice.Zip.{zip_turn, zip_end}
use Rattle.pattern.specs.Order.{pairs}
use Rattle.text.proofs.Progress.{gone_all}
use Rattle.sheet.specs.Number.{groups}
use Rattle.sheet.specs.Sheet.{pair_bytes, counted}
use Rattle.sheet.proofs.AtPlaces.{AtPair, at_pair, past_pairs}
use Rattle.sheet.proofs.Sinks.{first_room, second_room, put_both, Putting, putting_more, putting_room}
use Rattle.sheet.proofs.put.put_order.Goals as goal
use Rattle.sheet.proofs.put.put_order.Goals.{In-Some}

-- At the pair of the turn.
module _ (g : _) (c : In-Some g) where
  abbrev row : List ℕ
  row = groups c.in-Some.row.now

  abbrev col : List ℕ
  col = groups c.in-Some.col.now

  abbrev order : List (ℕ × ℕ)
  order = pairs c.args.size c.args.order_rows.now c.args.order_cols.now

  turn : AtPair c.args.size c.args.order_rows.now c.args.order_cols.now (length c.loop-row.yielded) c.in-Some.row.now c.in-Some.col.now
  turn =
      at_pair _ _ _ c.requires.1 c.requires.2
      (zip_turn (take c.args.size c.args.order_rows.now) (take c.args.size c.args.order_cols.now) c.loop-row.yielded _ _ c.next.new.self _ (cc) (cc) c.loop-row.yielded_by _ c.in-Some.is c.next.ensures.steps)

  room : g.S.Sink.room c.loop-row.sink (length (row ++ col))
  room = rw turn.is at (putting_room g.met.S.Sink.laws c.loop-row.invariant (0, 0) turn.within c.requires.3)

  more : {t : _} → g.S.Sink.after c.loop-row.sink (pair_bytes (length c.loop-row.yielded) (get_or order (length c.loop-row.yielded) (0, 0))) t
      → Putting g.S.Sink.after pair_bytes counted order (length c.loop-row.yielded + 1) (length c.loop-row.yielded + 1) c.args.sink.now t
  more = putting_more g.met.S.Sink.laws c.loop-row.invariant (0, 0) turn.within c.requires.3

pub put-requires : goal.put-requires
put-requires g c =
    let s = (goal.at.put-requires g c).In-Some in
    (omega arith, first_room g.met.S.Sink.laws c.loop-row.sink (row g s) (col g s) (room g s))

pub put-requires-in-loop-row : goal.put-requires-in-loop-row
put-requires-in-loop-row g c =
    let s = (goal.at.put-requires-in-loop-row g c).In-Some in
    (omega arith, second_room g.met.S.Sink.laws c.loop-row.sink (row g s) (col g s) (room g s) c.put.ensures)

pub loop-row-preserved : goal.loop-row-preserved
loop-row-preserved g c =
    let s = (goal.at.loop-row-preserved g c).In-Some in
    let both = put_both g.met.S.Sink.laws c.loop-row.sink (row g s) (col g s) (room g s) c.put.ensures c.put-in-loop-row.ensures in
    rw (length_push c.loop-row.yielded (c.in-Some.row, c.in-Some.col)) (more g s (rw (turn g s).is both))

pub returns : goal.returns
returns g c =
    gone_all c.loop-row.invariant (past_pairs _ _ _ c.requires.1 c.requires.2
    (zip_end (take c.args.size c.args.order_rows.now) (take c.args.size c.args.order_cols.now) c.loop-row.yielded _ _ c.next.new.self _ (cc) (cc) c.loop-row.yielded_by c.in-None.is c.next.ensures.steps))
