-- `top`: the greatest of as many rows as the counter says.
use mathlib.Core.List.{List, []}
use mathlib.Core.Path.{◌≡◌, refl, ap}
use Prim.Native.Nat.{ℕ, suc, ◌+◌}
use native.Mathlib.Omega.{arith}
use lib.ListN.{take}
use lib.Seq.{take_all}
use borrow.Author.Rules.{rules}
use Rattle.pattern.specs.Places.{at as stands}
use Rattle.pattern.specs.Series.{greatest}
use Rattle.listing.specs.Limits.{max_size}
use Rattle.register.proofs.Orders.{greatest_on}
use Rattle.sheet.specs.Passes.{thing}
use Rattle.sheet.specs.Reading.{rows_at}
use Rattle.sheet.proofs.Lefts.{left_none, left_long, left_all}
use Rattle.sheet.proofs.Rereads.{row_known, RowMet, row_met}
use Rattle.sheet.proofs.sound.top.Goals as goal
use Rattle.sheet.proofs.sound.top.Goals.{After-known-gap}

-- Once the row has been read: the turn, and what it met.
module _ (c : After-known-gap) where
  abbrev R : List ℕ
  R = thing [] (rows_at c.args.bytes.now max_size c.args.n c.args.place)

  abbrev r : ℕ
  r = c.loop.least + c.known-gap.result.value

  met : RowMet c.args.bytes.now c.args.n c.args.place R c.loop.counter r c.known-gap.result.next
  met = row_met _ c.loop.invariant.0 (omega arith) c.known-gap.ensures

pub loop-init : goal.loop-init
unfolding greatest
loop-init c = (left_none c.requires.0, refl)

pub known-gap-requires : goal.known-gap-requires
known-gap-requires c = row_known _ c.loop.invariant.0 (omega arith)

pub overflow_add-r : goal.overflow_add-r
overflow_add-r c = let b = (met (goal.at.overflow_add-r c).After-known-gap).below in search rules

pub bounds-places-r : goal.bounds-places-r
bounds-places-r c = (met (goal.at.bounds-places-r c).After-known-gap).below

pub overflow_add-least : goal.overflow_add-least
overflow_add-least c = let b = (met (goal.at.overflow_add-least c).After-known-gap).below in search rules

pub loop-preserved : goal.loop-preserved
loop-preserved c =
    let after_known_gap = (goal.at.loop-preserved c).After-known-gap in
    let f : ℕ → ℕ = λ (x : ℕ). suc (stands c.args.places.now x) in
    let p : f (r after_known_gap) ≡ f (stands (R after_known_gap) c.loop.counter) = ap f (met after_known_gap).is in
    let g = greatest_on f (R after_known_gap) c.loop.counter (omega (arith, left_long c.loop.invariant.0)) in
    ((met after_known_gap).left, grind (arith, c.max-top.ensures))

pub returns : goal.returns
returns c =
    let e : c.loop.counter ≡ c.args.n = omega arith in
    let R = thing [] (rows_at c.args.bytes.now max_size c.args.n c.args.place) in
    let all : take c.loop.counter R ≡ R = take_all c.loop.counter R (omega (arith, left_long c.loop.invariant.0)) in
    (left_all c.loop.invariant.0 e, rw all at c.loop.invariant.1)
