-- `scan_rows`: as many rows as the counter says have been read.
use mathlib.Core.Path.{refl, sym}
use Prim.Native.Nat.{◌+◌, ◌<◌}
use native.Mathlib.Omega.{arith}
use Rattle.sheet.proofs.Gauges.{partly_more, partly_fault, partly_all}
use Rattle.sheet.proofs.Handed.{handed_on}
use Rattle.sheet.proofs.Readings.{row_got}
use Rattle.sheet.proofs.scan.scan_rows.Goals as goal
use Rattle.sheet.proofs.scan.scan_rows.Goals.{In_ok-r}

pub returns-in_err-r : goal.returns-in_err-r
returns-in_err-r c = rw (handed_on _ _ c.from_residual.ensures.1) (sym (partly_fault c.loop.invariant.1 (omega arith) (sym c.in_err-r.ensures)))

-- The row that was read.
below : (c : In_ok-r) → c.in_ok-r.r.value < c.args.m
below c = (row_got c.args.bytes.now c.args.m c.loop.least c.loop.at (sym c.in_ok-r.ensures)).below

pub overflow_add-least : goal.overflow_add-least
overflow_add-least c = omega (arith, below (goal.at.overflow_add-least c).In_ok-r)

pub loop-preserved : goal.loop-preserved
loop-preserved c =
    (omega (arith, below (goal.at.loop-preserved c).In_ok-r), partly_more c.loop.invariant.1 1 (c.in_ok-r.r.value + 1) (omega arith) (sym c.in_ok-r.ensures) (λ l. omega arith) refl)

pub returns : goal.returns
returns c = sym (partly_all c.loop.invariant.1 c.args.n (omega arith) (omega arith))
