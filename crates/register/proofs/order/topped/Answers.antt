-- `topped`: the columns before place t may stand where they do.
use mathlib.Core.Path.{◌≡◌, sym, ◌∙◌}
use Prim.Native.Nat.{ℕ, ◌<◌}
use native.Mathlib.Omega.{arith}
use borrow.Author.Count.{below_more}
use Rattle.pattern.specs.Places.{at}
use Rattle.listing.proofs.Answers.{told_no}
use Rattle.listing.proofs.Between.{first_at}
use Rattle.register.specs.Order.{AtTop}
use Rattle.register.proofs.order.topped.Goals as goal
use Rattle.register.proofs.order.topped.Goals.{After-wide-c}

-- The column at place t.
module _ (c : After-wide-c) where
  in_range : c.loop-t.t < c.args.m
  in_range = (first_at c.args.cols.now c.requires.2 (omega arith)).0

  is_column : c.wide-c.result ≡ at c.args.cols.now c.loop-t.t
  is_column = c.wide-c.ensures ∙ (first_at c.args.cols.now c.requires.2 (omega arith)).1

  -- What is asked of it, in its own name.
  asked : ((t : ℕ) → t < c.args.m → AtTop c.args.m c.args.cs.now c.args.tops.now (at c.args.cols.now t) t)
      → AtTop c.args.m c.args.cs.now c.args.tops.now c.wide-c.result c.loop-t.t
  asked all = rw is_column (all c.loop-t.t in_range)

pub returns-then-m-c : goal.returns-then-m-c
returns-then-m-c c = told_no (λ all. omega (arith, (asked (goal.at.returns-then-m-c c).After-wide-c all).below))

pub returns-then-cs-c : goal.returns-then-cs-c
returns-then-cs-c c = told_no (λ all. omega (arith, (asked (goal.at.returns-then-cs-c c).After-wide-c all).some))

pub returns-then-wide-t : goal.returns-then-wide-t
returns-then-wide-t c =
    told_no (λ all. c.if-wide-t.true (c.wide.ensures ∙ (asked (goal.at.returns-then-wide-t c).After-wide-c all).top))

pub loop-t-preserved : goal.loop-t-preserved
loop-t-preserved c =
    let here : AtTop c.args.m c.args.cs.now c.args.tops.now c.wide-c.result c.loop-t.t = record { below = omega arith; some = omega arith; top = sym c.wide.ensures ∙ c.if-wide-t.false } in
    below_more _ _ c.loop-t.invariant (rw (is_column (goal.at.loop-t-preserved c).After-wide-c) at here)
