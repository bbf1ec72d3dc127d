-- `feed_ready`: i bytes of the chunk are taken, and the lists are the caller's.
use Rattle.register.specs.Loan.{held, SameLists}
use Rattle.turns.specs.Turns.{run, lent}
use Rattle.script.proofs.Takings.{Taken}
use Rattle.script.proofs.bytes.feed_ready.Given as goal

abbrev pub invariant-loop-i : goal.invariant-loop-i
invariant-loop-i l =
    Taken (run l.initial.st (lent (held l.initial.lists) l.initial.eta l.initial.numbers l.initial.line)) l.chunk l.initial.output
    (run l.st (lent (held l.lists) l.eta l.numbers l.line)) l.i l.output
    × SameLists l.initial.lists l.lists
