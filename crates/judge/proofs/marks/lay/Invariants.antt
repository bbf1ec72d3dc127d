-- `lay`: the numbers below x whose place is marked, but for place p, have been written.
use Rattle.pattern.specs.Places.{at}
use Rattle.register.specs.Marks.{flagged}
use Rattle.judge.specs.Reach.{stands_at}
use Rattle.judge.proofs.Numbered.{Lain}
use Rattle.judge.proofs.marks.lay.Given as goal

abbrev pub invariant-loop-x : goal.invariant-loop-x
invariant-loop-x l = Lain (stands_at (flagged l.marks) (at l.places) l.p) l.initial.list l.list l.n l.x
