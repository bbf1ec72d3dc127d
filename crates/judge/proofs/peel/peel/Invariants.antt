-- `peel`: the first n places of the new order have been taken, and no column of the window before old place t is available.
use Rattle.pattern.specs.Places.{at}
use Rattle.judge.specs.Spiked.{spiked_of}
use Rattle.judge.proofs.Peels.{Peeling}
use Rattle.judge.proofs.peel.peel.Given as goal

abbrev pub invariant-loop-n : goal.invariant-loop-n
invariant-loop-n l = Peeling l.pattern.columns.size (spiked_of l.pattern) (at l.order_rows) (at l.order_cols) l.pattern.new.now l.p l.end l.n l.places l.old l.counts l.t
