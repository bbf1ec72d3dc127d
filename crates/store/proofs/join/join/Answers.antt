-- `join`: the numbers below r, then r, then those above it.
use mathlib.Core.Path.{refl}
use Prim.Native.Nat.{ℕ, ◌+◌, ◌-◌, ◌≤◌}
use native.Mathlib.Omega.{arith}
use lib.ListN.{length, length-set}
use Rattle.listing.specs.Limits.{max_size}
use Rattle.listing.proofs.Between.{between_length}
use Rattle.store.proofs.Joins.{joined_many, joined_few, joined_written}
use Rattle.store.proofs.join.join.Goals as goal
use Rattle.store.proofs.join.join.Goals.{After-below}

-- The places, once they have been found.
module _ (c : After-below) where
  abbrev q : ℕ
  q = c.below-q.result

  few : q + 1 + (length c.args.numbers.now - (q + c.below.result)) ≤ max_size
  few = joined_few c.requires.0 c.requires.1 c.below-q.ensures c.below.ensures

  short : q ≤ length c.args.numbers.now
  short = c.below-q.ensures.within

pub copy-requires : goal.copy-requires
copy-requires c =
    let after_below = (goal.at.copy-requires c).After-below in
    omega (arith, between_length 0 (q after_below) c.args.numbers.now (short after_below), few after_below, c.requires.2)

pub bounds-list-q : goal.bounds-list-q
bounds-list-q c =
    omega (arith, c.copy.auto.list, few (goal.at.bounds-list-q c).After-below, c.requires.2)

pub copy-requires-2 : goal.copy-requires-2
copy-requires-2 c =
    let after_below = (goal.at.copy-requires-2 c).After-below in
    let l = c.args.numbers.now in
    let k = c.copy in
    omega (
      arith,
      between_length (q after_below + c.below.result) (length l) l (omega arith),
      length-set k.new.list (q after_below) c.args.r,
      k.auto.list,
      few after_below,
      c.requires.2,
    )

pub returns : goal.returns
returns c =
    let a = c.args in
    let C = c.below-q.ensures in
    let D = c.below.ensures in (
      joined_many c.requires.0 c.requires.1 C D,
      joined_written c.requires.0 c.requires.1 C D a.list.now a.r c.requires.2 refl c.copy.ensures refl
          c.copy-2.ensures,
    )
