-- `put_order`: as many pairs as the loop has gone through are put.
use lib.ListN.{length}
use Rattle.pattern.specs.Order.{pairs}
use Rattle.sheet.specs.Sheet.{counted, pair_bytes}
use Rattle.sheet.proofs.Sinks.{Putting}
use Rattle.sheet.proofs.put.put_order.Given as goal

abbrev pub invariant-loop-row : goal.invariant-loop-row
invariant-loop-row g l =
    Putting g.S.Sink.after pair_bytes counted (pairs l.size l.order_rows l.order_cols) (length l.yielded) (length l.yielded) l.initial.sink l.sink
