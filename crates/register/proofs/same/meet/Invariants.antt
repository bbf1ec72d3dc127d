-- `meet`: the rows before the next one have been read.
use mathlib.Core.Path.{◌≡◌}
use lib.ListN.{take}
use Rattle.pattern.specs.Places.{at}
use Rattle.pattern.specs.Series.{greatest}
use Rattle.listing.specs.Walk.{Past}
use Rattle.register.proofs.same.meet.Given as goal

abbrev pub invariant-loop-row : goal.invariant-loop-row
invariant-loop-row l =
    Past l.cols l.j (take l.row-index l.rows) l.initial.next l.next × (l.top ≡ greatest (at l.places) (take l.row-index l.rows))
