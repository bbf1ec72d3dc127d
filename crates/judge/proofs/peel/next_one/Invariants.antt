-- `next_one`: there is no count of one from the start up to t.
use Rattle.judge.specs.Peel.{Searched}
use Rattle.judge.proofs.peel.next_one.Given as goal

abbrev pub invariant-loop-t : goal.invariant-loop-t
invariant-loop-t l = Searched l.counts l.from l.t
