-- `work` ends: each call takes some of what is left.
use lib.ListN.{length}
use Rattle.tryout.proofs.work.Given as goal

abbrev pub decreases-loop-rest : goal.decreases-loop-rest
decreases-loop-rest g l = length l.rest
