-- `spread`: c has been let into the parts from place i of the list on.
use Rattle.listing.specs.Loan.{SameListed}
use Rattle.store.proofs.LettingIn.{Spreading}
use Rattle.store.proofs.store.spread.Given as goal

abbrev pub invariant-loop-i : goal.invariant-loop-i
invariant-loop-i l =
    record {
      same : SameListed l.initial.listed l.listed;
      spreading : Spreading l.m l.c l.these l.initial.listed.starts.now l.initial.listed.entries.now
          l.listed.starts.now l.listed.entries.now l.rest.end l.rest.top l.i;
    }
