-- `put_rows`: the rows before the index are put.
use native.Mathlib.Omega.{arith}
use Rattle.text.proofs.Progress.{gone_all}
use Rattle.sheet.proofs.AtPlaces.{row_small, at_row_more}
use Rattle.sheet.proofs.Sinks.{putting_more, putting_room}
use Rattle.sheet.proofs.put.put_rows.Goals as goal

pub put-requires : goal.put-requires
put-requires g c =
    (omega (arith, row_small c.loop-row.invariant.0 c.loop-row-test.true), putting_room g.met.S.Sink.laws c.loop-row.invariant.1 0 c.loop-row-test.true c.requires.1)

pub loop-row-preserved : goal.loop-row-preserved
loop-row-preserved g c =
    (at_row_more c.loop-row.invariant.0 c.loop-row-test.true, putting_more g.met.S.Sink.laws c.loop-row.invariant.1 0 c.loop-row-test.true c.requires.1 c.put.ensures)

pub returns : goal.returns
returns g c = gone_all c.loop-row.invariant.1 c.loop-row-test.false
