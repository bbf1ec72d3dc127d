-- `fresh_order`: the places hold their own numbers.
use lib.ListN.{replicate}
use Rattle.register.proofs.Starting.{own_at}
use Rattle.register.proofs.Register.fresh_order.Goals as goal

pub returns : goal.returns
returns c = record { long = c.lay_own.auto.list; own = own_at (replicate 1000 0) c.lay_own.ensures }
