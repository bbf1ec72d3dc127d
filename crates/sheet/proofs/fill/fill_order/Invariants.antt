-- `fill_order`: the rows and the columns of the first `t` places have been stored.
use mathlib.Core.List.{[]}
use Rattle.listing.proofs.Storing.{Stored}
use Rattle.sheet.specs.Passes.{thing}
use Rattle.sheet.specs.Reading.{order_at}
use Rattle.sheet.specs.Sheet.{firsts, seconds}
use Rattle.sheet.proofs.Rereads.{OrderLeft}
use Rattle.sheet.proofs.fill.fill_order.Given as goal

abbrev pub invariant-loop-t : goal.invariant-loop-t
invariant-loop-t l =
    let o = thing [] (order_at l.bytes l.m l.place) in
    OrderLeft l.bytes l.m l.place o l.t l.at × Stored 0 (firsts o) l.initial.rows l.t l.rows × Stored 0 (seconds o) l.initial.cols l.t l.cols
