-- `put_columns`: the columns before column c are put.
use mathlib.Core.List.{List, [], ◌++◌}
use Prim.Native.Nat.{ℕ, ◌<◌}
use native.Mathlib.Omega.{arith}
use lib.ListN.{length}
use Rattle.listing.specs.Formed.{parts_of}
use Rattle.text.proofs.Progress.{gone_all}
use Rattle.sheet.specs.Number.{groups}
use Rattle.sheet.specs.Sheet.{rows_bytes}
use Rattle.sheet.proofs.AtPlaces.{parts_length, ColumnSeen, column_seen}
use Rattle.sheet.proofs.Sinks.{first_room, second_room, put_both, putting_more, putting_room}
use Rattle.sheet.proofs.put.put_columns.Goals as goal
use Rattle.sheet.proofs.put.put_columns.Goals.{After-part-rows}

-- The rows that were handed over are those of the column.
module _ (g : _) (c : After-part-rows g) where
  abbrev rows : List ℕ
  rows = c.part-rows.result.now

  seen : ColumnSeen c.args.columns.good c.loop-c.c rows
  seen = column_seen c.args.columns.good c.loop-c.c c.loop-c-test.true c.part-rows.ensures

  within : c.loop-c.c < length (parts_of c.args.columns)
  within = omega (arith, c.loop-c-test.true, parts_length c.args.columns.size c.args.columns.listed.starts.now c.args.columns.listed.entries.now)

  room : g.S.Sink.room c.loop-c.sink (length (groups (length rows) ++ rows_bytes rows))
  room = rw (← seen.is_column) at (putting_room g.met.S.Sink.laws c.loop-c.invariant.1 [] within c.requires)

pub put-requires : goal.put-requires
put-requires g c =
    let s = (goal.at.put-requires g c).After-part-rows in
    (omega (arith, (seen g s).few), first_room g.met.S.Sink.laws c.loop-c.sink (groups (length (rows g s))) (rows_bytes (rows g s)) (room g s))

pub put_rows-requires : goal.put_rows-requires
put_rows-requires g c =
    let s = (goal.at.put_rows-requires g c).After-part-rows in
    ((seen g s).rises, second_room g.met.S.Sink.laws c.loop-c.sink (groups (length (rows g s))) (rows_bytes (rows g s)) (room g s) c.put.ensures)

pub loop-c-preserved : goal.loop-c-preserved
loop-c-preserved g c =
    let s = (goal.at.loop-c-preserved g c).After-part-rows in
    let both = put_both g.met.S.Sink.laws c.loop-c.sink (groups (length (rows g s))) (rows_bytes (rows g s)) (room g s) c.put.ensures c.put_rows.ensures in
    (_, putting_more g.met.S.Sink.laws c.loop-c.invariant.1 [] (within g s) c.requires (rw (seen g s).is_column at both))

pub overflow_cast-rows : goal.overflow_cast-rows
overflow_cast-rows g c = omega (arith, (seen g (goal.at.overflow_cast-rows g c).After-part-rows).few)

pub returns : goal.returns
returns g c = gone_all c.loop-c.invariant.1 (omega (arith, c.loop-c-test.false, parts_length c.args.columns.size c.args.columns.listed.starts.now c.args.columns.listed.entries.now))
