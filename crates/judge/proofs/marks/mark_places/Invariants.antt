-- `mark_places`: the places of the numbers gone through are marked.
use mathlib.Core.Path.{◌≡◌}
use lib.ListN.{length, take}
use Rattle.pattern.specs.Places.{at}
use Rattle.register.specs.Marks.{flagged}
use Rattle.judge.specs.Reach.{WithPlaces}
use Rattle.judge.proofs.marks.mark_places.Given as goal

abbrev pub invariant-loop-x : goal.invariant-loop-x
invariant-loop-x l = (length l.marks ≡ 1024) × WithPlaces (flagged l.initial.marks) (flagged l.marks) (at l.places) (take l.x-index l.numbers)
