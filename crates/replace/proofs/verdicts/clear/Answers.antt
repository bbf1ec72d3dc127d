-- `clear`: the spiked pattern is stored with the row of c cleared, and the pair goes to the last place.
use mathlib.Core.List.{[]}
use mathlib.Core.Path.{◌≡◌, sym, ap, ◌∙◌, subst}
use Prim.Native.Nat.{ℕ, ◌<◌}
use native.Mathlib.Omega.{arith}
use Rattle.pattern.specs.Pattern.{Entry}
use Rattle.pattern.specs.Places.{at, place}
use Rattle.pattern.specs.Verdict.{c_row}
use Rattle.pattern.proofs.Finding.{place_of}
use Rattle.register.specs.Lent.{columns}
use Rattle.register.specs.Loan.{held}
use Rattle.store.specs.Store.{joined}
use Rattle.store.proofs.Joins.{joined_rises, joined_read}
use Rattle.judge.specs.Call.{Call, call, asked}
use Rattle.judge.specs.Judge.{Judgeable}
use Rattle.replace.proofs.Changes.{cleared_room, cleared_stored}
use Rattle.replace.proofs.Spikes.{call_row}
use Rattle.replace.proofs.verdicts.clear.Goals as goal
use Rattle.replace.proofs.verdicts.clear.Goals.{After-first-rows, Start}

module _ (s : Start) where
  abbrev a : Call
  a =
      call s.args.m (held s.args.lists.now) s.args.c s.args.new.now []

  J : Judgeable a
  J = s.requires.judgeable.0

  -- The place of c.
  p_is : s.args.p ≡ place (at a.lists.order_cols) a.size a.column
  p_is = s.requires.placed

  p_in : s.args.p < a.size
  p_in = omega (arith, p_is, (place_of J.sound.order.cols a.column J.column_below).0)

  -- Its row.
  module _ {r : ℕ} (e : r ≡ at a.lists.order_rows s.args.p) where
    r_is : r ≡ c_row (asked a)
    r_is = e ∙ ap (at a.lists.order_rows) p_is ∙ sym (call_row J)

    r_below : r < a.size
    r_below = omega (arith, e, J.sound.order.rows.below s.args.p p_in)

    -- Paired with it, it is a row of it.
    r_paired : Entry (columns a.size a.lists) r a.column
    r_paired =
        let q = place_of J.sound.order.cols a.column J.column_below in
        subst (λ (x : ℕ). Entry (columns a.size a.lists) x a.column) (sym e)
        (subst (λ (y : ℕ). Entry (columns a.size a.lists) (at a.lists.order_rows s.args.p) y)
        (ap (at a.lists.order_cols) p_is ∙ q.1)
        (J.sound.order.paired s.args.p p_in))

rows_are : (c : After-first-rows) → c.first-rows.result.now ≡ joined (a (goal.at.After-first-rows c).Start).size c.wide-r.result (a (goal.at.After-first-rows c).Start).new_rows
rows_are c =
    c.first-rows.ensures ∙ joined_read _ (J (goal.at.After-first-rows c).Start).new_rise (r_below (goal.at.After-first-rows c).Start c.wide-r.ensures) (J (goal.at.After-first-rows c).Start).sound.sized.1 c.join-n.ensures.0 c.join-n.ensures.1

pub offset_bounds-lists-p : goal.offset_bounds-lists-p
offset_bounds-lists-p c =
    let start = (goal.at.offset_bounds-lists-p c).Start in
    omega (arith, p_in start, (J start).sound.sized)

pub bounds-lists-p : goal.bounds-lists-p
bounds-lists-p c =
    let start = (goal.at.bounds-lists-p c).Start in
    omega (arith, p_in start, (J start).sound.long.order_rows_fit)

pub join-n-requires : goal.join-n-requires
join-n-requires c =
    let start = (goal.at.join-n-requires c).Start in (
      record { below = λ i h. omega (arith, (J start).new_rise.below i h, (J start).sound.sized); rises = (J start).new_rise.rises },
      omega (arith, r_below start c.wide-r.ensures, (J start).sound.sized),
      omega arith,
    )

pub exchange-requires : goal.exchange-requires
exchange-requires c =
    let start = (goal.at.exchange-requires c).Start in
    let after_first = (goal.at.exchange-requires c).After-first-rows in
    record {
      sound = ((J start).sound, (J start).column_below, rw (rows_are after_first) (joined_rises (a start).size c.wide-r.result (a start).new_rows));
      entry = λ h. r_paired start c.wide-r.ensures;
      room = cleared_room (J start) (r_is start c.wide-r.ensures) (rows_are after_first) c.requires.judgeable.1 c.requires.choice_left;
    }

pub move_last-requires : goal.move_last-requires
move_last-requires c =
    let start = (goal.at.move_last-requires c).Start in
    (p_in start, rw c.exchange.ensures.order_kept.0 (J start).sound.long.order_rows_fit)

pub move_last-requires-2 : goal.move_last-requires-2
move_last-requires-2 c =
    let start = (goal.at.move_last-requires-2 c).Start in
    (p_in start, rw c.exchange.ensures.order_kept.1 (J start).sound.long.order_cols_fit)

pub returns-clause-clears : goal.returns-clause-clears
returns-clause-clears c =
    let start = (goal.at.returns-clause-clears c).Start in
    let E = c.exchange.ensures in
    cleared_stored (J start) (r_is start c.wide-r.ensures) (rows_are (goal.at.returns-clause-clears c).After-first-rows) c.args.p
    E.columns_held E.rows_held (rw E.order_kept.0 at c.move_last.ensures) (rw E.order_kept.1 at c.move_last-2.ensures)

-- The scratch lists keep their lengths.
pub invariant_of-scratch : goal.invariant_of-scratch
invariant_of-scratch c =
    let long = c.args.scratch.now.long in
    record { long = (c.exchange.ensures.work_long, c.join-n.auto.list ∙ long.1, long.2) }
