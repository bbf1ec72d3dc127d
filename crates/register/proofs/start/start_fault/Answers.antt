-- `start_fault`: where every check passes, the order t:t is that of the fresh list.
use mathlib.Core.Path.{refl}
use native.Mathlib.Omega.{arith}
use Rattle.pattern.specs.Ladder.{holds}
use Rattle.listing.proofs.Answers.{shown}
use Rattle.register.proofs.start.start_fault.Goals as goal

pub returns : goal.returns
returns c =
    holds (omega arith)
    (holds (rw (← c.wide.ensures) (shown c.takes.ensures c.if-not-takes.false))
    (holds (shown c.formed.ensures c.if-not-formed.false)
    (holds (shown c.own_sound.ensures c.if-not-own_sound.false) refl)))
