-- `row_left`: not all rows have places, so that the end is not reached.
use native.Mathlib.Omega.{arith}
use Rattle.pattern.proofs.Tests.{among_has}
use Rattle.judge.proofs.PeelCounts.{unplaced_none}
use Rattle.judge.proofs.peel.row_left.Goals as goal

pub returns-then-places-x-ge-NOWHERE : goal.returns-then-places-x-ge-NOWHERE
returns-then-places-x-ge-NOWHERE c =
    record { there = rw c.wide-x.ensures (among_has c.args.rows.now c.loop-row.row-index (omega arith)); nowhere = c.if-places-x-ge-NOWHERE.true }

pub unreachable-requires : goal.unreachable-requires
unreachable-requires c =
    omega (arith, unplaced_none c.args.places.now c.args.rows.now (λ k h. c.loop-row.invariant k (omega arith)), c.requires.some)
