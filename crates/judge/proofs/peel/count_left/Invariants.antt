-- `count_left`: the columns of the places from p up to t have been counted.
use Rattle.pattern.specs.Places.{at}
use Rattle.judge.specs.Peel.{Counted}
use Rattle.judge.specs.Spiked.{spiked_part_of}
use Rattle.judge.proofs.peel.count_left.Given as goal

abbrev pub invariant-loop-t : goal.invariant-loop-t
invariant-loop-t l = Counted (λ u. spiked_part_of l.pattern (at l.order_cols u)) l.places l.p l.t l.counts
