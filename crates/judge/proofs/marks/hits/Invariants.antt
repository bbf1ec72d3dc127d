-- `hits`: how many of the numbers gone through have a marked place.
use mathlib.Core.Path.{◌≡◌}
use Prim.Native.Nat.{◌≤◌}
use Rattle.pattern.specs.Places.{at}
use Rattle.register.specs.Marks.{flagged}
use Rattle.judge.specs.Sets.{counted}
use Rattle.judge.proofs.marks.hits.Given as goal

abbrev pub invariant-loop-x : goal.invariant-loop-x
invariant-loop-x l = (l.sum ≤ l.x-index) × (l.sum ≡ counted (λ i. flagged l.marks (at l.places (at l.numbers i))) l.x-index)
