-- `take_out`: a turn deletes a piece of the next part that changes, and what stands before the piece goes down.
use Rattle.listing.specs.Loan.{parts_in, SameListed}
use Rattle.store.proofs.Takings.{Taken}
use Rattle.store.proofs.store.take_out.Given as goal

abbrev pub invariant-loop-j : goal.invariant-loop-j
invariant-loop-j l =
    record {
      same : SameListed l.initial.listed l.listed;
      taken : Taken l.m (parts_in l.m l.initial.listed) l.c l.r l.these l.initial.listed.starts.now l.initial.listed.entries.now
          l.listed.starts.now l.listed.entries.now l.from l.k l.gone l.j-index;
    }
