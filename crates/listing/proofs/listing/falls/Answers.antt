-- `falls`: the falls among the first k entries have been counted; where there is no entry, there is none.
use mathlib.Core.Path.{refl}
use native.Mathlib.Omega.{arith}
use Rattle.pattern.proofs.Tallies.{tally_none, tally_next}
use Rattle.listing.specs.Falls.{fall}
use Rattle.listing.proofs.Falling.{fall_first, fall_yes, fall_no, falls_all}
use Rattle.listing.proofs.listing.falls.Goals as goal
use Rattle.listing.proofs.listing.falls.Goals.{then-entries-k, else-entries-k}

pub loop-k-init : goal.loop-k-init
loop-k-init c = let l = c.args.entries.now in (λ e. refl, omega arith, omega (arith, tally_next (fall l) 0, tally_none (fall l), fall_first l))

pub loop-k-preserved : goal.loop-k-preserved
loop-k-preserved c =
    let l = c.args.entries.now in
    let k = c.loop-k.k in
    let on = tally_next (fall l) k in
    elim c.if-entries-k.branch [
      | then-entries-k w ↦ (λ e. absurd (omega arith), omega (arith, w.sum-is), omega (arith, w.sum-is, on, fall_yes l k (omega arith) (omega (arith, w.if-entries-k.true))))
      | else-entries-k w ↦ (λ e. absurd (omega arith), omega (arith, w.sum-is), omega (arith, w.sum-is, on, fall_no l k (omega (arith, w.if-entries-k.false))))
    ]

pub returns : goal.returns
returns c = falls_all c.args.entries.now c.args.n c.loop-k.invariant.0 c.loop-k.invariant.2 (λ h. omega arith)
