-- `put_columns`: the columns before column c are put.
use Prim.Native.Nat.{ℕ}
use Rattle.listing.specs.Formed.{parts_of}
use Rattle.sheet.specs.Sheet.{grown, column_bytes}
use Rattle.sheet.proofs.Sinks.{Putting}
use Rattle.sheet.proofs.put.put_columns.Given as goal

abbrev pub invariant-loop-c : goal.invariant-loop-c
invariant-loop-c g l = (n : ℕ) × Putting g.S.Sink.after column_bytes grown (parts_of l.columns) l.c n l.initial.sink l.sink
