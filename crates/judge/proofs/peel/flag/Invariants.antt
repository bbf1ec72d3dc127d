-- `flag`: some of the new rows have been gone through.
use Rattle.judge.proofs.NewRows.{Flagging}
use Rattle.judge.proofs.peel.flag.Given as goal

abbrev pub invariant-loop-row : goal.invariant-loop-row
invariant-loop-row l = Flagging l.new l.initial.places l.row-index l.places
