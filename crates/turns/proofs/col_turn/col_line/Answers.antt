-- `col_line`: the numbers of the column's line are kept, those behind the first are stored as its rows, and the next column is
-- wanted or the desk is opened.
use mathlib.Core.List.{List, [], ◌∷◌}
use mathlib.Core.Path.{◌≡◌, ap}
use Prim.Native.Nat.{ℕ, ◌-◌, ◌≤◌}
use native.Mathlib.Omega.{arith}
use lib.ListN.{length, take, drop}
use Rattle.listing.specs.Held.{over}
use Rattle.text.specs.Text.{max_numbers, Speaks}
use Rattle.text.proofs.Kept.{kept_few, kept_rows}
use Rattle.text.proofs.Printing.{prints_none}
use Rattle.register.specs.Lent.{Lists, lists}
use Rattle.register.specs.Loan.{held}
use Rattle.turns.specs.Turns.{col_word, Run, run, lent, line_so_far}
use Rattle.turns.proofs.ColSteps.{ColStored, col_goes_on, col_opens}
use Rattle.turns.proofs.Makings.{steady_length}
use Rattle.turns.proofs.col_turn.col_line.Goals as goal
use Rattle.turns.proofs.col_turn.col_line.Goals.{After-keep, After-store-now_fits, In-Some, Start}

module _ (s : Start) where
  -- The run before the line.
  abbrev begun : (eta : List ℕ) → Run
  begun eta =
      run s.args.state (lent (held s.args.lists.now) eta s.args.numbers.now s.args.line.now)

  line_long : length (line_so_far (begun [])) ≡ s.args.state.used
  line_long = steady_length s.requires.0

-- The line is the column's.
module _ (c : In-Some) where
  abbrev start : Start
  start = (goal.at.In-Some c).Start

  abbrev column : ℕ
  column = c.args.column

  abbrev count : ℕ
  count = c.in-Some.count

  found : (rows : List ℕ) × Speaks (line_so_far (begun start [])) col_word (column ∷ rows) × (count ≡ length (column ∷ rows))
  found = c.in-Some.ensures

  few : count ≤ max_numbers
  few = omega (arith, found.2, kept_few (omega (arith, line_long start, c.requires.0.line_short)) found.1)

pub keep-requires : goal.keep-requires
unfolding col_word
keep-requires c =
    let counted = (goal.at.keep-requires c).In-Some in
    (omega (arith, line_long (goal.at.keep-requires c).Start, c.requires.0.line_short), c.requires.3, (column counted ∷ (found counted).0, (found counted).1))

-- Its numbers are kept.
module _ (c : After-keep) where
  abbrev heard : In-Some
  heard = (goal.at.After-keep c).In-Some

  abbrev numbers : List ℕ
  numbers = c.keep.new.numbers

  kept : numbers ≡ over (column heard ∷ (found heard).0) c.args.numbers.now
  unfolding col_word
  kept = c.keep.ensures (column heard ∷ (found heard).0) (found heard).1

  rows_are : take (count heard - 1) (drop 1 numbers) ≡ (found heard).0
  rows_are = kept_rows (column heard) (found heard).0 c.args.numbers.now kept (found heard).2

pub store-now_fits-requires : goal.store-now_fits-requires
store-now_fits-requires c =
    let counted = (goal.at.store-now_fits-requires c).In-Some in
    let p = c.requires in
    (omega (arith, p.1, p.2, p.4.col_starts_fit), omega (arith, ap length (rows_are (goal.at.store-now_fits-requires c).After-keep), (found counted).2, few counted), omega (arith, p.4.col_rows_fit))

-- Its rows are stored, where they fit.
module _ (c : After-store-now_fits) where
  abbrev counted : In-Some
  counted = (goal.at.After-store-now_fits c).In-Some

  abbrev after_keep : After-keep
  after_keep = (goal.at.After-store-now_fits c).After-keep

  -- The lists then.
  abbrev stored_lists : Lists
  stored_lists =
      let l = c.args.lists.now in
      lists c.store-now_fits.new.cs c.store-now_fits.new.cr l.row_starts.now l.row_cols.now l.order_rows.now l.order_cols.now

  stored : (eta : List ℕ) → let a = c.args in
      ColStored (begun (goal.at.After-store-now_fits c).Start eta) a.column a.fits c.store-now_fits.result stored_lists (numbers after_keep)
  stored eta =
      let l = c.args.lists.now in
      let h = rw (rows_are after_keep) at (c.store-now_fits.ensures l.row_starts.now l.row_cols.now l.order_rows.now l.order_cols.now) in
      record { rows = (found counted).0; says = (found counted).1; fitting = h.0; stands = h.1; kept = kept after_keep }

pub returns-then-column-size-clause-makes : goal.returns-then-column-size-clause-makes
returns-then-column-size-clause-makes c eta =
    let a = c.args in
    let at_start = (goal.at.returns-then-column-size-clause-makes c).Start in
    let after_store = (goal.at.returns-then-column-size-clause-makes c).After-store-now_fits in
    col_goes_on (begun at_start eta) a.size a.column a.fits (stored after_store eta) c.if-column-size.true c.next_line.ensures (prints_none a.out.now)

pub returns-clause-makes : goal.returns-clause-makes
returns-clause-makes c eta =
    let a = c.args in
    let at_start = (goal.at.returns-clause-makes c).Start in
    let after_store = (goal.at.returns-clause-makes c).After-store-now_fits in
    col_opens (begun at_start eta) a.size a.column a.fits (stored after_store eta) c.if-column-size.false
    (c.«open».ensures.makes (held a.lists.now) (a.column ∷ (stored after_store eta).rows) eta a.numbers.now a.line.now)

pub slice_bounds-store-end : goal.slice_bounds-store-end
slice_bounds-store-end c = omega (arith, few (goal.at.slice_bounds-store-end c).In-Some)
