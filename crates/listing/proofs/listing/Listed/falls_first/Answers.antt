-- `falls_first`: the four cases of the definition.
use mathlib.Core.Path.{◌≡◌, sym, ◌∙◌}
use Prim.Native.Nat.{ℕ, ◌<◌}
use native.Mathlib.Omega.{arith}
use lib.ListN.{length}
use Rattle.pattern.specs.Places.{at}
use Rattle.listing.specs.Falls.{fall, fall_at_start}
use Rattle.listing.proofs.Falling.{fall_yes, fall_no, start_first, start_some, start_none}
use Rattle.listing.proofs.listing.Listed.falls_first.Goals as goal
use Rattle.listing.proofs.listing.Listed.falls_first.Goals.{Else-wide-from}

pub returns-then-from-eq0 : goal.returns-then-from-eq0
returns-then-from-eq0 c =
    sym (start_first c.args.self.starts.now c.args.self.entries.now c.args.k (omega arith))

pub returns-then-wide-from : goal.returns-then-wide-from
returns-then-wide-from c =
    sym (start_none c.args.self.starts.now c.args.self.entries.now c.args.k (omega arith))

-- The part has a number, and is not the first that has.
module _ (c : Else-wide-from) where
  abbrev from : ℕ
  from = at c.args.self.starts.now c.args.k

  read : c.wide-from.result ≡ from
  read = c.wide-from.ensures

  in_list : from < length c.args.self.entries.now
  in_list = omega (arith, c.requires.1)

  is_start : fall_at_start c.args.self.starts.now c.args.self.entries.now c.args.k ≡ fall c.args.self.entries.now from
  is_start = start_some c.args.self.starts.now c.args.self.entries.now c.args.k (omega arith)

pub returns-then-self-from : goal.returns-then-self-from
returns-then-self-from c =
    let else_wide_from = (goal.at.returns-then-self-from c).Else-wide-from in
    sym (is_start else_wide_from ∙ fall_no c.args.self.entries.now (from else_wide_from) (rw (read else_wide_from) at c.if-self-from.true))

pub returns : goal.returns
returns c =
    let else_wide_from = (goal.at.returns c).Else-wide-from in
    sym (is_start else_wide_from ∙ fall_yes c.args.self.entries.now (from else_wide_from) (omega arith) (rw (read else_wide_from) at c.if-self-from.false))

pub offset_bounds-self-from : goal.offset_bounds-self-from
offset_bounds-self-from c = omega (arith, in_list (goal.at.offset_bounds-self-from c).Else-wide-from)

pub bounds-self-from : goal.bounds-self-from
bounds-self-from c = omega (arith, in_list (goal.at.bounds-self-from c).Else-wide-from)

pub offset_bounds-self-from-2 : goal.offset_bounds-self-from-2
offset_bounds-self-from-2 c = omega (arith, in_list (goal.at.offset_bounds-self-from-2 c).Else-wide-from)

pub bounds-self-from-2 : goal.bounds-self-from-2
bounds-self-from-2 c = omega (arith, in_list (goal.at.bounds-self-from-2 c).Else-wide-from)
