-- `put_rows`: the rows before the index are put.
use Rattle.sheet.specs.Sheet.{past, row_bytes}
use Rattle.sheet.proofs.AtPlaces.{AtRow}
use Rattle.sheet.proofs.Sinks.{Putting}
use Rattle.sheet.proofs.put.put_rows.Given as goal

abbrev pub invariant-loop-row : goal.invariant-loop-row
invariant-loop-row g l = AtRow l.rows l.row-index l.least × Putting g.S.Sink.after row_bytes past l.rows l.row-index l.least l.initial.sink l.sink
