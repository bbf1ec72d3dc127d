-- `copy`: the numbers before place i have been copied.
use mathlib.Core.Path.{refl}
use native.Mathlib.Omega.{arith}
use Rattle.listing.proofs.Storing.{stored_more}
use Rattle.listing.proofs.lists.copy.Goals as goal

pub loop-i-preserved : goal.loop-i-preserved
loop-i-preserved c = stored_more _ _ (omega arith) c.requires refl refl c.loop-i.invariant
