-- `peel`: the first n places of the new order have been taken, and no column of the window before old place t is available.
use mathlib.Core.Bool.{true, false}
use mathlib.Core.List.{List}
use mathlib.Core.Logic.{◌≢◌}
use mathlib.Core.Path.{◌≡◌, refl, sym, ap, ◌∙◌, subst}
use Prim.Native.Nat.{ℕ, ◌+◌, ◌-◌, ◌≤◌, ◌<◌}
use native.Mathlib.Omega.{arith}
use lib.Dec.{T}
use borrow.Author.Tests.{eq-eqb, ne_eqb}
use lib.ListN.{set}
use Rattle.pattern.specs.Pattern.{has, column}
use Rattle.pattern.specs.Places.{at}
use Rattle.pattern.specs.Turned.{SameEntries}
use Rattle.pattern.proofs.Rises.{rising_below}
use Rattle.pattern.proofs.Turning.{row_below}
use Rattle.listing.specs.Formed.{parts_of}
use Rattle.listing.specs.Limits.{max_size}
use Rattle.listing.proofs.Answers.{told_yes, told_no}
use Rattle.listing.specs.Listing.{parts, Good}
use Rattle.register.proofs.Orders.{placed_below}
use Rattle.std.specs.Prelude.{Some}
use Rattle.judge.specs.Peel.{NextOne, SomeLeft, IsLeft, Counted, Searched}
use Rattle.judge.specs.Spiked.{spiked_of}
use Rattle.judge.proofs.PeelCounts.{searched_on}
use Rattle.judge.proofs.NewRows.{new_told}
use Rattle.judge.proofs.Peels.{Window, Peeling, peeling_some, peeling_more, old_stands}
use Rattle.judge.proofs.SpikedParts.{spiked_is}
use Rattle.judge.proofs.Striking.{RowLeft, strikes, hits_from, left_struck, c_some, left_lowered}
use Rattle.judge.proofs.Windows.{Given, Ends, ends, p_in, given_window, peeling_start, peeling_stuck, peeling_all}
use Rattle.judge.proofs.peel.peel.Goals as goal
use Rattle.judge.proofs.peel.peel.Goals.{After-row_left-x, In-Some, After-part, After-part-columns, After-strike-t, After-wide-y, After-window_end-end, At-loop-n, Start, then-is_new, else-is_new}

-- What is given.
module _ (s : Start) where
  abbrev S : List (List ℕ)
  S = spiked_of s.args.pattern

  abbrev row : ℕ → ℕ
  row = at s.args.order_rows.now

  abbrev col : ℕ → ℕ
  col = at s.args.order_cols.now

  given : Given s.args.pattern.columns.size s.args.pattern.columns.listed.starts.now s.args.pattern.columns.listed.entries.now s.args.rows.listed.starts.now s.args.rows.listed.entries.now s.args.order_rows.now s.args.order_cols.now s.args.pattern.column s.args.pattern.new.now s.args.p
  given =
      record {
        columns = s.args.pattern.columns.good;
        rows = subst (λ (n : ℕ). Good n s.args.rows.listed.starts.now s.args.rows.listed.entries.now) s.requires.rows.0 s.args.rows.good;
        same =
            subst
            (λ (n : ℕ). SameEntries (parts_of s.args.pattern.columns) (parts n s.args.rows.listed.starts.now s.args.rows.listed.entries.now))
            s.requires.rows.0 s.requires.rows.1;
        order = s.requires.order.2;
        inside = s.args.pattern.new_column.0;
        rise = s.args.pattern.new_column.1;
        c_place = s.requires.placed.0;
      }

  small : s.args.pattern.columns.size ≤ max_size
  small = s.args.pattern.columns.good.small

  p_low : s.args.p < s.args.pattern.columns.size
  p_low = (p_in s.args.order_rows.now s.args.order_cols.now given).0

  -- The place of a new row is one.
  new_placed : (x : ℕ) → T (has s.args.pattern.new.now x) → at s.args.scratch.now.row_places x < s.args.pattern.columns.size
  new_placed x u = placed_below s.requires.placed.2 x (rising_below s.args.pattern.new_column.1 x u)

pub window_end-end-requires : goal.window_end-end-requires
window_end-end-requires c =
    let start = (goal.at.window_end-end-requires c).Start in
    (omega (arith, p_low start, small start), λ k h. omega (arith, c.args.pattern.new_column.1.below k h, small start), λ x u. omega (arith, new_placed start x u, small start))

-- The window's end is known.
module _ (c : After-window_end-end) where
  abbrev start : Start
  start = (goal.at.After-window_end-end c).Start

  abbrev end : ℕ
  end = c.window_end-end.result

  ending : Ends c.args.pattern.columns.size (row start) c.args.pattern.new.now c.args.p end
  ending = ends (p_low start) c.args.pattern.new_column.1 c.requires.placed.2 c.window_end-end.ensures

  window : Window c.args.pattern.columns.size (S start) (row start) (col start) end
  window = given_window c.args.order_rows.now c.args.order_cols.now (given start) ending

  end_small : end ≤ max_size
  end_small = omega (arith, ending.within, small start)

pub free-requires : goal.free-requires
free-requires c =
    let D = ending (goal.at.free-requires c).After-window_end-end in
    (omega (arith, D.after), omega (arith, D.within, c.requires.order.0), λ t h. omega (arith, c.requires.order.2.rows.below t (omega (arith, D.within)), small (goal.at.free-requires c).Start))

pub count_left-requires : goal.count_left-requires
count_left-requires c =
    let windowed = (goal.at.count_left-requires c).After-window_end-end in
    let D = ending windowed in record {
      window = (omega (arith, D.after), end_small windowed, omega (arith, D.within, c.requires.order.1));
      in_size = λ t h. c.requires.order.2.cols.below t (omega (arith, D.within));
    }

pub loop-n-init : goal.loop-n-init
loop-n-init c =
    peeling_start c.args.order_rows.now c.args.order_cols.now (given (goal.at.loop-n-init c).Start) (ending (goal.at.loop-n-init c).After-window_end-end) c.requires.placed.2 c.free.ensures c.flag.ensures c.requires.placed.1 c.count_left.ensures

pub next_one-requires : goal.next_one-requires
next_one-requires c = omega (arith, c.loop-n.invariant.within, end_small (goal.at.next_one-requires c).After-window_end-end)

pub returns-in_default : goal.returns-in_default
returns-in_default c =
    let none = searched_on c.loop-n.invariant.past (rw c.in_default.is at c.next_one.ensures) in
    told_no (peeling_stuck c.args.order_rows.now c.args.order_cols.now (given (goal.at.returns-in_default c).Start) (ending (goal.at.returns-in_default c).After-window_end-end) c.loop-n.invariant (omega arith) none)

-- A turn: a place with a count of one has been found.
module _ (c : In-Some) where
  found : NextOne (end (goal.at.In-Some c).After-window_end-end) c.loop-n.counts c.loop-n.t (Some c.in-Some.one)
  found = rw c.in-Some.is at c.next_one.ensures

  searched : Searched c.loop-n.counts c.args.p c.in-Some.one
  searched = searched_on c.loop-n.invariant.past found.0

-- Its column and the place are in range.
module _ (c : After-wide-y) where
  abbrev start_of_wide_y : Start
  start_of_wide_y = (goal.at.After-wide-y c).Start

  abbrev windowed : After-window_end-end
  windowed = (goal.at.After-wide-y c).After-window_end-end

  before_end : c.in-Some.one < end windowed
  before_end = (found (goal.at.After-wide-y c).In-Some).1

  col_in : c.wide-y.result < c.args.pattern.columns.size
  col_in = omega (arith, c.wide-y.ensures, c.requires.order.2.cols.below c.in-Some.one (omega (arith, before_end, (ending windowed).within)))

  one_left : at c.loop-n.counts c.in-Some.one ≡ 1
  one_left = (found (goal.at.After-wide-y c).In-Some).2

pub part-requires : goal.part-requires
part-requires c = col_in (goal.at.part-requires c).After-wide-y

pub offset_bounds-order_cols-one : goal.offset_bounds-order_cols-one
offset_bounds-order_cols-one c = omega (arith, (found (goal.at.offset_bounds-order_cols-one c).In-Some).1, end_small (goal.at.offset_bounds-order_cols-one c).After-window_end-end)

pub bounds-order_cols-one : goal.bounds-order_cols-one
bounds-order_cols-one c =
    omega (arith, (found (goal.at.bounds-order_cols-one c).In-Some).1, (ending (goal.at.bounds-order_cols-one c).After-window_end-end).within, c.requires.order.1)

-- Its rows are at hand.
module _ (c : After-part) where
  abbrev wide_y : After-wide-y
  wide_y = (goal.at.After-part c).After-wide-y

  abbrev windowed_part : After-window_end-end
  windowed_part = (goal.at.After-part c).After-window_end-end

  abbrev start_of_part : Start
  start_of_part = (goal.at.After-part c).Start

  rows_are : column (S start_of_part) (col start_of_part c.in-Some.one) ≡ c.part.result.now
  rows_are =
      ap (column (S start_of_part)) (sym c.wide-y.ensures)
      ∙ spiked_is c.args.pattern.columns.good c.args.pattern.new_column.0 c.args.pattern.new_column.1 c.wide-y.result (col_in wide_y)
      ∙ sym c.part.ensures

  some_left : SomeLeft c.loop-n.places c.part.result.now
  some_left =
      subst (SomeLeft c.loop-n.places) rows_are
      (peeling_some (window windowed_part) c.loop-n.invariant c.in-Some.one (searched (goal.at.After-part c).In-Some).after (before_end wide_y) (one_left wide_y))

pub row_left-x-requires : goal.row_left-x-requires
row_left-x-requires c = some_left (goal.at.row_left-x-requires c).After-part

-- Its one row without a place has been found.
module _ (c : After-row_left-x) where
  abbrev in_Some : In-Some
  in_Some = (goal.at.After-row_left-x c).In-Some

  abbrev windowed_left : After-window_end-end
  windowed_left = (goal.at.After-row_left-x c).After-window_end-end

  abbrev after_wide_y : After-wide-y
  after_wide_y = (goal.at.After-row_left-x c).After-wide-y

  abbrev start_of_left : Start
  start_of_left = (goal.at.After-row_left-x c).Start

  abbrev x : ℕ
  x = c.row_left-x.result

  is_left : IsLeft c.loop-n.places (column (S start_of_left) (col start_of_left c.in-Some.one)) x
  is_left = subst (λ (r : List ℕ). IsLeft c.loop-n.places r x) (sym (rows_are (goal.at.After-row_left-x c).After-part)) c.row_left-x.ensures

  row_in : x < c.args.pattern.columns.size
  row_in = row_below (window windowed_left).columns x (col start_of_left c.in-Some.one) is_left.there

  -- Once the counts are right again, one more place has been taken.
  abbrev Right : List ℕ → Type 0
  Right = Counted (λ u. column (S start_of_left) (col start_of_left u)) (set c.loop-n.places x c.loop-n.n) c.args.p (end windowed_left)

  one_more : {counts' : List ℕ} {t' : ℕ} → Right counts' → Searched counts' c.args.p t' → t' ≤ end windowed_left
      → Peeling c.args.pattern.columns.size (S start_of_left) (row start_of_left) (col start_of_left) c.args.pattern.new.now c.args.p (end windowed_left) (c.loop-n.n + 1) (set c.loop-n.places x c.loop-n.n) (set c.loop-n.old c.wide-y.result c.loop-n.n) counts' t'
  one_more =
      peeling_more (window windowed_left) c.loop-n.invariant c.in-Some.one (searched in_Some).after (before_end after_wide_y) (one_left after_wide_y) x is_left.there is_left.nowhere
      (omega arith) (searched in_Some) c.wide-y.result c.wide-y.ensures

pub part-columns-requires : goal.part-columns-requires
part-columns-requires c = omega (arith, row_in (goal.at.part-columns-requires c).After-row_left-x, c.requires.rows.0)

-- Its columns are at hand.
module _ (c : After-part-columns) where
  abbrev after_row_left_x : After-row_left-x
  after_row_left_x = (goal.at.After-part-columns c).After-row_left-x

  abbrev windowed_columns : After-window_end-end
  windowed_columns = (goal.at.After-part-columns c).After-window_end-end

  row_left : RowLeft c.args.pattern.columns.size (S (goal.at.After-part-columns c).Start) c.args.rows.listed.starts.now c.args.rows.listed.entries.now
      c.args.order_cols.now c.args.p (end windowed_columns) c.loop-n.places c.loop-n.counts c.loop-n.old c.part-columns.result.now (x after_row_left_x)
  row_left =
      record {
        long = c.loop-n.invariant.placed.long;
        counted = c.loop-n.invariant.left;
        inside = row_in after_row_left_x;
        nowhere = (is_left after_row_left_x).nowhere;
        is = c.part-columns.ensures;
        stands = old_stands (window windowed_columns) c.loop-n.invariant (x after_row_left_x) (is_left after_row_left_x).nowhere;
      }

pub strike-t-requires : goal.strike-t-requires
strike-t-requires c =
    strikes c.args.order_rows.now c.args.order_cols.now (given (goal.at.strike-t-requires c).Start) (ending (goal.at.strike-t-requires c).After-window_end-end) (row_left (goal.at.strike-t-requires c).After-part-columns)

-- They have been struck but c, and it is known whether the new column has the row.
module _ (c : After-strike-t) where
  abbrev after_columns : After-part-columns
  after_columns = (goal.at.After-strike-t c).After-part-columns

  abbrev start_of_strike : Start
  start_of_strike = (goal.at.After-strike-t c).Start

  abbrev left_of_strike : After-row_left-x
  left_of_strike = (goal.at.After-strike-t c).After-row_left-x

  abbrev windowed_strike : After-window_end-end
  windowed_strike = (goal.at.After-strike-t c).After-window_end-end

  abbrev counts : List ℕ
  counts = c.strike-t.new.counts

  place_low : c.loop-n.n < max_size
  place_low = omega (arith, end_small windowed_strike)

  has_new : at c.loop-n.places (x left_of_strike) ≡ 1001 → has c.args.pattern.new.now (x left_of_strike) ≡ true
  has_new e = new_told c.args.pattern.new.now c.loop-n.places (x left_of_strike) c.loop-n.invariant.told (row_in left_of_strike) (is_left left_of_strike).nowhere true (eq-eqb _ _ e)

  has_not : at c.loop-n.places (x left_of_strike) ≢ 1001 → has c.args.pattern.new.now (x left_of_strike) ≡ false
  has_not n = new_told c.args.pattern.new.now c.loop-n.places (x left_of_strike) c.loop-n.invariant.told (row_in left_of_strike) (is_left left_of_strike).nowhere false (ne_eqb _ _ n)

  right_struck : has c.args.pattern.new.now (x left_of_strike) ≡ false → Right left_of_strike counts
  right_struck = left_struck c.args.order_rows.now c.args.order_cols.now (given start_of_strike) (ending windowed_strike) (row_left after_columns) place_low c.strike-t.ensures.0

  right_lowered : has c.args.pattern.new.now (x left_of_strike) ≡ true → Right left_of_strike (set counts c.args.p (at counts c.args.p - 1))
  right_lowered e =
      left_lowered c.args.order_rows.now c.args.order_cols.now (given start_of_strike) (ending windowed_strike) (row_left after_columns) place_low c.strike-t.ensures.0 e (at counts c.args.p - 1) refl

  some_lower : has c.args.pattern.new.now (x left_of_strike) ≡ true → 0 < at counts c.args.p
  some_lower = c_some c.args.order_rows.now c.args.order_cols.now (given start_of_strike) (ending windowed_strike) (row_left after_columns) place_low c.strike-t.ensures.0

  searched_still : Searched counts c.args.p c.strike-t.result
  searched_still =
      c.strike-t.ensures.2 c.args.p (hits_from c.args.order_rows.now c.args.order_cols.now (given start_of_strike) (ending windowed_strike) (row_left after_columns)) (searched (goal.at.After-strike-t c).In-Some)

pub lower-t-requires : goal.lower-t-requires
lower-t-requires c =
    let start = (goal.at.lower-t-requires c).Start in
    let after_strike_t = (goal.at.lower-t-requires c).After-strike-t in
    (omega (arith, p_low start, small start), some_lower after_strike_t (has_new after_strike_t c.if-is_new.true))

pub loop-n-preserved : goal.loop-n-preserved
loop-n-preserved c =
    let after_row_left_x = (goal.at.loop-n-preserved c).After-row_left-x in
    let after_strike_t = (goal.at.loop-n-preserved c).After-strike-t in
    let within = (found (goal.at.loop-n-preserved c).In-Some).1 in
    let before = c.strike-t.ensures.1 in
    elim c.if-is_new.branch [
      | then-is_new w ↦
          let e = w.lower-t.ensures in
          let right : Right after_row_left_x w.lower-t.new.counts = rw e.0 (right_lowered after_strike_t (has_new after_strike_t w.if-is_new.true)) in
          rw (w.counts-is, w.t-is) (one_more after_row_left_x right (e.2 c.args.p (omega arith) (searched_still after_strike_t)) (omega (arith, e.1, before, within)))
      | else-is_new w ↦
          let right = right_struck after_strike_t (has_not after_strike_t w.if-is_new.false) in
          rw (w.counts-is, w.t-is) (one_more after_row_left_x right (searched_still after_strike_t) (omega (arith, before, within)))
    ]

pub returns : goal.returns
returns c =
    told_yes (peeling_all c.args.order_rows.now c.args.order_cols.now (given (goal.at.returns c).Start) (ending (goal.at.returns c).After-window_end-end) c.loop-n.invariant (omega (arith, c.loop-n.invariant.upto)))

pub overflow_cast-places : goal.overflow_cast-places
overflow_cast-places c = omega (arith, end_small (goal.at.overflow_cast-places c).After-window_end-end)

pub overflow_cast-old : goal.overflow_cast-old
overflow_cast-old c = omega (arith, place_low (goal.at.overflow_cast-old c).After-strike-t)

pub bounds-old-y : goal.bounds-old-y
bounds-old-y c = omega (arith, col_in (goal.at.bounds-old-y c).After-wide-y, small (goal.at.bounds-old-y c).Start)
