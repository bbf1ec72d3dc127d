-- `permute`: the spiked pattern is stored, and the order laid from its places.
use Rattle.replace.proofs.Changes.{spiked_room, permuted_stored}
use Rattle.replace.proofs.verdicts.permute.Goals as goal

pub exchange-requires-clause-room : goal.exchange-requires-clause-room
exchange-requires-clause-room c = spiked_room c.requires.judgeable.0 c.requires.judgeable.1

pub returns-clause-permutes : goal.returns-clause-permutes
returns-clause-permutes c =
    let E = c.exchange.ensures in
    permuted_stored c.requires.judgeable.0 E.columns_held E.rows_held (rw E.order_kept.0 at c.lay_order.ensures) (rw E.order_kept.1 at c.lay_order-2.ensures)

-- The scratch lists keep their lengths.
pub invariant_of-scratch : goal.invariant_of-scratch
invariant_of-scratch c = let long = c.args.scratch.now.long in record { long = (c.exchange.ensures.work_long, long.1, long.2) }
