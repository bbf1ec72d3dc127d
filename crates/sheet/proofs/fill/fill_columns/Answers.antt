-- `fill_columns`: the columns before column `c` have been stored.
use mathlib.Core.List.{List, []}
use mathlib.Core.Path.{◌≡◌, refl}
use Prim.Native.Nat.{ℕ}
use native.Mathlib.Omega.{arith}
use borrow.Author.Rules.{rules}
use Rattle.sheet.specs.Passes.{thing}
use Rattle.sheet.specs.Reading.{columns_at}
use Rattle.sheet.proofs.Lefts.{left_none, left_long, left_all}
use Rattle.sheet.proofs.Listings.{RoomFor, listed_none, listed_room, listed_more, listed_all}
use Rattle.sheet.proofs.Rereads.{count_known, CountMet, count_met}
use Rattle.sheet.proofs.fill.fill_columns.Goals as goal
use Rattle.sheet.proofs.fill.fill_columns.Goals.{After-known-n, Start}

-- From the start: the lists have room for the columns.
module _ (s : Start) where
  abbrev P : List (List ℕ)
  P = thing [] (columns_at s.args.bytes.now s.args.m s.args.place)

  room : RoomFor s.args.m P s.args.cs.now s.args.cr.now
  room = record { size = left_long (left_none s.requires.1); starts_fit = s.requires.2; entries_fit = s.requires.3 }

-- Once the count has been read: the turn, and what it met.
module _ (c : After-known-n) where
  met : CountMet c.args.bytes.now c.args.m c.args.place (P (goal.at.After-known-n c).Start) c.loop-c.c c.loop-c.entries c.known-n.result.value c.known-n.result.next
  met = count_met _ _ c.requires.0 c.loop-c.invariant.0 (omega arith) c.known-n.ensures

pub loop-c-init : goal.loop-c-init
loop-c-init c = (left_none c.requires.1, omega arith, listed_none (room (goal.at.loop-c-init c).Start))

pub known-n-requires : goal.known-n-requires
known-n-requires c = count_known _ _ c.requires.0 c.loop-c.invariant.0 (omega arith)

pub fill_rows-at-requires : goal.fill_rows-at-requires
fill_rows-at-requires c =
    let after_known_n = (goal.at.fill_rows-at-requires c).After-known-n in
    ((met after_known_n).rows_known, omega (arith, (met after_known_n).is, listed_room (room (goal.at.fill_rows-at-requires c).Start) c.loop-c.invariant.2 (omega arith)))

pub overflow_add-entries : goal.overflow_add-entries
overflow_add-entries c = let f = (met (goal.at.overflow_add-entries c).After-known-n).few in search rules

pub loop-c-preserved : goal.loop-c-preserved
loop-c-preserved c =
    let after_known_n = (goal.at.loop-c-preserved c).After-known-n in (
      (met after_known_n).left c.fill_rows-at.ensures.0,
      (met after_known_n).few,
      listed_more (room (goal.at.loop-c-preserved c).Start) c.loop-c.invariant.2 _ _ (omega arith) refl (met after_known_n).is (met after_known_n).rows_are c.fill_rows-at.ensures.1,
    )

pub returns : goal.returns
returns c =
    let e : c.loop-c.c ≡ c.args.m = omega arith in
    (left_all c.loop-c.invariant.0 e, listed_all (room (goal.at.returns c).Start) c.loop-c.invariant.2 _ e refl)
