-- `same`: the columns before j have been read; what the cursors then say.
use mathlib.Core.List.{List}
use mathlib.Core.Path.{◌≡◌, sym, ap, ◌∙◌, subst}
use Prim.Native.Nat.{ℕ, ◌+◌, ◌<◌}
use native.Mathlib.Omega.{arith}
use lib.ListN.{length, length-set}
use borrow.Author.Count.{below_none}
use Rattle.pattern.specs.Pattern.{column}
use Rattle.pattern.specs.Places.{at}
use Rattle.pattern.specs.Rising.{Rising}
use Rattle.pattern.specs.Series.{greatest}
use Rattle.pattern.specs.Turned.{row_of}
use Rattle.pattern.proofs.Rises.{rising_below}
use Rattle.listing.specs.Formed.{parts_of}
use Rattle.listing.specs.Walk.{AllNext}
use Rattle.listing.proofs.Answers.{told_no, told_as, refuted, shown}
use Rattle.listing.proofs.Listings.{starts_rise, good_columns, good_column}
use Rattle.listing.proofs.Rises.{rising_within}
use Rattle.listing.proofs.Stores.{stored_more}
use Rattle.register.specs.Order.{Tops}
use Rattle.register.proofs.Agreement.{ends_turned, turned_ends}
use Rattle.register.proofs.Passing.{Passed, passed_none, passed_more, cursor_small, turned_next}
use Rattle.register.proofs.same.same.Goals as goal
use Rattle.register.proofs.same.same.Goals.{After-part, Start}

-- The columns.
abbrev P : Start → List (List ℕ)
P s = parts_of s.args.columns

pub loop-j-init : goal.loop-j-init
loop-j-init c =
    let out = c.set_out.ensures in (
      omega arith,
      passed_none (P (goal.at.loop-j-init c).Start) c.args.rows.entries.now (omega arith) out
          (λ r h. omega (arith, c.requires.0.entries_long, starts_rise c.requires.1 r c.args.columns.size (omega arith) (omega arith))),
      below_none _,
    )

-- Column j is read.
module _ (c : After-part) where
  abbrev j : ℕ
  j = c.loop-j.j

  in_size : j < c.args.columns.size
  in_size = omega arith

  rows_are : c.part.result.now ≡ column (P (goal.at.After-part c).Start) j
  rows_are = good_column c.args.columns.good j in_size c.part.ensures

  rise : Rising c.args.columns.size c.part.result.now
  rise = subst (Rising c.args.columns.size) (sym rows_are) ((good_columns c.args.columns.good).rise j in_size)

pub meet-requires : goal.meet-requires
meet-requires c =
    let after_part = (goal.at.meet-requires c).After-part in
    let l = c.loop-j in record {
      in_range = (omega (arith, c.args.columns.good.small), rising_within c.args.columns.good.small (rise after_part));
      cursors_low = λ r t. cursor_small c.requires.0 c.requires.1 (P (goal.at.meet-requires c).Start) l.j l.invariant.1.cursors (omega (arith, c.args.columns.good.small)) r (rising_below (rise after_part) r t);
    }

pub returns-then-not-meet-clause-told : goal.returns-then-not-meet-clause-told
returns-then-not-meet-clause-told c =
    let after_part = (goal.at.returns-then-not-meet-clause-told c).After-part in
    told_no (λ all. refuted c.meet.ensures c.if-not-meet.true
    (subst (λ (l : List ℕ). AllNext c.args.rows.entries.now (j after_part) l c.loop-j.next) (sym (rows_are after_part))
    (turned_next c.requires.0 c.requires.1 (P (goal.at.returns-then-not-meet-clause-told c).Start) (j after_part) (good_columns c.args.columns.good) (in_size after_part) c.loop-j.invariant.1.cursors all)))

pub loop-j-preserved : goal.loop-j-preserved
loop-j-preserved c =
    let after_part = (goal.at.loop-j-preserved c).After-part in
    let start = (goal.at.loop-j-preserved c).Start in
    let i = c.loop-j.invariant in
    let places = c.args.places.now in
    let d = shown c.meet.ensures c.if-not-meet.false in (
      ap length d.1 ∙ length-set c.loop-j.tops (j after_part) _ ∙ i.0,
      passed_more (P start) (j after_part) i.1 (rw (rows_are after_part) at d.0),
      subst (Tops (j after_part + 1) places (P start)) (sym d.1)
          (stored_more (λ y. greatest (at places) (column (P start) y)) c.loop-j.tops (j after_part) _ (omega (arith, i.0, in_size after_part, c.args.columns.good.small)) (ap (greatest (at places)) (rows_are after_part)) i.2),
    )

pub returns-clause-told : goal.returns-clause-told
returns-clause-told c =
    let start = (goal.at.returns-clause-told c).Start in
    let e : c.loop-j.j ≡ c.args.columns.size = omega arith in
    let W : Passed c.args.columns.size (at c.args.rows.starts.now) c.args.rows.entries.now (λ r. row_of (P start) r c.args.columns.size) c.loop-j.next = rw e at c.loop-j.invariant.1 in
    told_as (λ ends. (ends_turned (P start) c.requires.0 c.requires.1 W ends, λ y h. c.loop-j.invariant.2 y (omega arith)))
    (λ n all. n (turned_ends (P start) c.requires.0 c.requires.1 W all)) c.all_met.ensures
