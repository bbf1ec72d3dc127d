-- `copy`: the numbers before place i have been copied.
use Rattle.listing.proofs.Storing.{Stored}
use Rattle.listing.proofs.lists.copy.Given as goal

abbrev pub invariant-loop-i : goal.invariant-loop-i
invariant-loop-i l = Stored l.from l.numbers l.initial.list l.i l.list
