-- `scan_order`: as many places as the counter says have been read.
use mathlib.Core.Path.{refl, sym, ◌∙◌}
use Prim.Native.Nat.{ℕ, ◌+◌}
use native.Mathlib.Omega.{arith}
use Rattle.sheet.specs.Reading.{pair_at}
use Rattle.sheet.proofs.Gauges.{gauged_got, gauged_bad, partly_more, partly_fault, partly_all}
use Rattle.sheet.proofs.Handed.{handed_on}
use Rattle.sheet.proofs.Onward.{pair_any}
use Rattle.sheet.proofs.scan.scan_order.Goals as goal

pub returns-in_err-at : goal.returns-in_err-at
returns-in_err-at c =
    let e = gauged_bad (λ (p : ℕ × ℕ). p.1) (pair_at c.args.bytes.now c.args.m 0 c.loop-t.at) (sym c.in_err-at.ensures) in
    rw (handed_on _ _ c.from_residual.ensures.1) (sym (partly_fault c.loop-t.invariant (omega arith) (pair_any c.args.bytes.now c.args.m c.loop-t._t c.loop-t.at 0 ∙ e)))

pub loop-t-preserved : goal.loop-t-preserved
loop-t-preserved c =
    let e = gauged_got (λ (p : ℕ × ℕ). p.1) (pair_at c.args.bytes.now c.args.m 0 c.loop-t.at) (sym c.in_ok-at.ensures) in
    partly_more c.loop-t.invariant 1 (c.loop-t._t + 1) (omega arith) (pair_any c.args.bytes.now c.args.m c.loop-t._t c.loop-t.at 0 ∙ e.read) (λ l. omega arith) refl

pub returns : goal.returns
returns c = sym (partly_all c.loop-t.invariant c.args.m (omega arith) (omega arith))
