-- `meet`: the rows before the next one have been read.
use mathlib.Core.List.{List}
use mathlib.Core.Path.{◌≡◌, refl, sym, ap, ◌∙◌}
use Prim.Native.Nat.{ℕ, ◌+◌, ◌≤◌, ◌<◌, max}
use native.Mathlib.Omega.{arith}
use lib.ListN.{length, take, set}
use Rattle.pattern.specs.Places.{at}
use Rattle.pattern.specs.Series.{greatest}
use Rattle.listing.specs.Limits.{max_size, max_total}
use Rattle.listing.specs.Walk.{AllNext, Past}
use Rattle.listing.proofs.Answers.{told_no}
use Rattle.register.proofs.Orders.{greatest_on}
use Rattle.register.proofs.Passing.{past_none, past_more, cursor_most, has_next}
use Rattle.register.proofs.same.meet.Goals as goal
use Rattle.register.proofs.same.meet.Goals.{After-wide, After-wide-r, then-top-place, else-top-place}

pub loop-row-init : goal.loop-row-init
unfolding greatest
loop-row-init c = (past_none c.args.rows.now (omega arith), refl)

-- A turn, at row r.
module _ (c : After-wide-r) where
  abbrev cols : List ℕ
  cols = c.args.cols.now

  abbrev r : ℕ
  r = c.wide-r.result

  abbrev cursor : ℕ
  cursor = at c.loop-row.next r

  -- The row is in range, and its cursor is not great.
  row_in : r < max_size
  row_in = omega (arith, c.wide-r.ensures, c.requires.in_range.1.below c.loop-row.row-index (omega arith))

  cursor_in : cursor ≤ max_total + max_size
  cursor_in = cursor_most c.requires.in_range.1 (omega arith) c.wide-r.ensures c.loop-row.invariant.0 c.requires.cursors_low

  -- Where all rows have column j next, this one has; and where it has, the rows up to it have been read.
  is_next : AllNext cols c.args.j c.args.rows.now c.args.next.now → (cursor < length cols) × (at cols cursor ≡ c.args.j)
  is_next = has_next c.requires.in_range.1 (omega arith) c.wide-r.ensures c.loop-row.invariant.0

  goes_on : cursor < length cols → at cols cursor ≡ c.args.j → (v : ℕ) → v ≡ cursor + 1
      → Past cols c.args.j (take (c.loop-row.row-index + 1) c.args.rows.now) c.args.next.now (set c.loop-row.next r v)
  goes_on = past_more c.requires.in_range.1 (omega arith) c.wide-r.ensures c.loop-row.invariant.0 row_in

  higher : greatest (at c.args.places.now) (take (c.loop-row.row-index + 1) c.args.rows.now) ≡ max c.loop-row.top (at c.args.places.now r)
  higher =
      omega (
        arith,
        c.loop-row.invariant.1,
        greatest_on (at c.args.places.now) c.args.rows.now c.loop-row.row-index (omega arith),
        ap (at c.args.places.now) c.wide-r.ensures,
      )

read : (c : After-wide) → c.wide.result ≡ at (cols (goal.at.After-wide c).After-wide-r) (cursor (goal.at.After-wide c).After-wide-r)
read c = c.wide.ensures ∙ ap (at (cols (goal.at.After-wide c).After-wide-r)) c.wide-p.ensures

pub returns-then-cols-p : goal.returns-then-cols-p
returns-then-cols-p c = told_no (λ all. omega (arith, c.wide-p.ensures, (is_next (goal.at.returns-then-cols-p c).After-wide-r all).0))

pub returns-then-wide-j : goal.returns-then-wide-j
returns-then-wide-j c = told_no (λ all. c.if-wide-j.true (read (goal.at.returns-then-wide-j c).After-wide ∙ (is_next (goal.at.returns-then-wide-j c).After-wide-r all).1))

pub loop-row-preserved : goal.loop-row-preserved
loop-row-preserved c =
    let after_wide_r = (goal.at.loop-row-preserved c).After-wide-r in (
      goes_on after_wide_r (omega (arith, c.wide-p.ensures)) (sym (read (goal.at.loop-row-preserved c).After-wide) ∙ c.if-wide-j.false) _ (omega (arith, c.wide-p.ensures)),
      let h = higher after_wide_r in
          elim c.if-top-place.branch [
            | then-top-place v ↦ omega (arith, v.top-is, v.if-top-place.true, h)
            | else-top-place v ↦ omega (arith, v.top-is, v.if-top-place.false, h)
          ],
    )

pub overflow_cast-next : goal.overflow_cast-next
overflow_cast-next c = omega (arith, cursor_in (goal.at.overflow_cast-next c).After-wide-r, c.wide-p.ensures)
