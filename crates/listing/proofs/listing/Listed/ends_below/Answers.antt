-- `ends_below`: the parts before part k end below m.
use mathlib.Core.Path.{◌≡◌, ap, ◌∙◌}
use Prim.Native.Nat.{ℕ, ◌+◌, ◌-◌, ◌≤◌}
use native.Mathlib.Omega.{arith}
use lib.ListN.{length}
use borrow.Author.Count.{below_none, below_more}
use Rattle.pattern.specs.Places.{at}
use Rattle.listing.proofs.Answers.{told_yes, told_no}
use Rattle.listing.proofs.Listings.{part_within}
use Rattle.listing.proofs.listing.Listed.ends_below.Goals as goal
use Rattle.listing.proofs.listing.Listed.ends_below.Goals.{After-wide, else-wide-to-via-then-wide-to+else-m-wide, else-wide-to-via-else-wide-to}

pub loop-k-init : goal.loop-k-init
loop-k-init c = below_none _

-- A part that has a number, and its last one.
module _ (c : After-wide) where
  abbrev to : ℕ
  to = at c.args.self.starts.now (c.loop-k.k + 1)

  in_list : to ≤ length c.args.self.entries.now
  in_list = (part_within c.requires.0 c.requires.1 c.loop-k.k (omega arith)).in_list

  read : {n : ℕ} → n ≡ at c.args.self.entries.now (c.wide-to.result - 1) → n ≡ at c.args.self.entries.now (to - 1)
  read e = e ∙ ap (λ (t : ℕ). at c.args.self.entries.now (t - 1)) c.wide-to.ensures

pub returns-then-m-wide : goal.returns-then-m-wide
returns-then-m-wide c =
    told_no (λ all. omega (arith, all c.loop-k.k (omega arith) (omega (arith, c.wide.ensures, c.wide-to.ensures)), read (goal.at.returns-then-m-wide c).After-wide c.wide-then-wide-to.ensures))

pub loop-k-preserved : goal.loop-k-preserved
loop-k-preserved c =
    below_more _ _ c.loop-k.invariant
    (λ h. elim c.else-wide-to.branch [
      | else-wide-to-via-then-wide-to+else-m-wide v ↦ omega (arith, v.if-m-wide.false, read (goal.at.loop-k-preserved c).After-wide v.wide-then-wide-to.ensures)
      | else-wide-to-via-else-wide-to v ↦ absurd (omega (arith, v.if-wide-to.false, c.wide.ensures, c.wide-to.ensures))
    ])

pub returns : goal.returns
returns c = told_yes (λ x h. c.loop-k.invariant x (omega arith))

pub offset_bounds-self-to : goal.offset_bounds-self-to
offset_bounds-self-to c = omega (arith, in_list (goal.at.offset_bounds-self-to c).After-wide)

pub bounds-self-to : goal.bounds-self-to
bounds-self-to c = omega (arith, in_list (goal.at.bounds-self-to c).After-wide)
