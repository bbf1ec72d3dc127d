-- `lay_starts`: a turn lays one start.
use Rattle.listing.proofs.Turns.{Laying}
use Rattle.listing.proofs.turn.lay_starts.Given as goal

abbrev pub invariant-loop-r : goal.invariant-loop-r
invariant-loop-r l = Laying l.m l.initial.next l.initial.starts l.next l.starts l.r l.sum
