-- `lay_starts`: a turn lays one start.
use Prim.Native.Nat.{◌+◌}
use native.Mathlib.Omega.{arith}
use Rattle.pattern.specs.Places.{at}
use Rattle.pattern.proofs.Tallies.{tally_next, tally_more}
use Rattle.listing.proofs.Turns.{laying_none, laying_more}
use Rattle.listing.proofs.turn.lay_starts.Goals as goal

pub loop-r-init : goal.loop-r-init
loop-r-init c = laying_none c.requires.2

pub overflow_add-sum : goal.overflow_add-sum
overflow_add-sum c =
    let f = at c.args.next.now in
    let within = tally_more f (c.loop-r.r + 1) c.args.m (omega arith) in
    omega (arith, c.loop-r.invariant.total, c.loop-r.invariant.left c.loop-r.r (omega arith), tally_next f c.loop-r.r)

pub loop-r-preserved : goal.loop-r-preserved
loop-r-preserved c = laying_more c.requires.0 c.requires.1 c.loop-r.invariant (omega arith)
