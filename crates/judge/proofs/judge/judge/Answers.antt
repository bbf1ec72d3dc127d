-- `judge`: the new rows at reached places are counted, and where there is one, the peel decides. Their places are before the window's end,
-- so the marks of a sweep up to it tell them.
use mathlib.Core.Bool.{Bool, true}
use mathlib.Core.Logic.{◌≢◌, ◌↔◌}
use mathlib.Core.List.{List}
use mathlib.Core.Path.{◌≡◌, sym, ap, ◌∙◌, subst}
use Prim.Native.Nat.{ℕ, ◌<◌}
use native.Mathlib.Omega.{arith}
use lib.Dec.{T}
use lib.ListN.{length, set}
use Rattle.pattern.specs.Order.{Triangular}
use Rattle.pattern.specs.Pattern.{has}
use Rattle.pattern.specs.Places.{at, place}
use Rattle.pattern.specs.Verdict.{Spike}
use Rattle.pattern.proofs.Finding.{place_of}
use Rattle.pattern.proofs.Rises.{rising_below}
use Rattle.pattern.proofs.Tests.{has_among, among_has}
use Rattle.listing.specs.Limits.{max_size, max_mark}
use Rattle.listing.proofs.Rises.{rising_once}
use Rattle.register.specs.Lent.{rows}
use Rattle.register.specs.Loan.{seen}
use Rattle.register.specs.Marks.{flagged, unmarked}
use Rattle.register.specs.Order.{Placed}
use Rattle.register.specs.declared.marks.Marks.{Marks}
use Rattle.register.specs.declared.scratch.Scratch.{Scratch}
use Rattle.register.proofs.Orders.{placed_below}
use Rattle.register.proofs.Soundness.{rows_good}
use Rattle.judge.specs.Call.{Call, call}
use Rattle.judge.specs.Judge.{Judgeable}
use Rattle.judge.specs.Reach.{ByRows, Swept}
use Rattle.judge.specs.Call as replace
use Rattle.judge.proofs.Bools.{unmarked_flags, unmarked_long, stored_flag}
use Rattle.judge.proofs.Counting.{counted_some, counted_two, some_counted}
use Rattle.judge.proofs.Judging.{rows_sound, SweptColumn, Met, judged_permuted, judged_singular, two_met, c_before_top, judged_elimination}
use Rattle.judge.proofs.Sweeping.{Reached, sweeping_none, swept_are, sweeping_all}
use Rattle.judge.proofs.Windows.{Ends, ends}
use Rattle.judge.proofs.judge.judge.Goals as goal
use Rattle.judge.proofs.judge.judge.Goals.{After-hits-met, After-sweep, After-sweep-2, After-window_end-end, Joined-met-eq1, Start, then-met-eq1+else-peel, else-met-eq1}

-- What is given.
module _ (begun : Start) where
  abbrev asked : Call
  asked =
      call begun.args.m (seen begun.args.lists) begun.args.c begun.args.new.now begun.args.eta.now

  J : Judgeable asked
  J = begun.requires.judgeable.0

  abbrev row : ℕ → ℕ
  row = at asked.lists.order_rows

  abbrev col : ℕ → ℕ
  col = at asked.lists.order_cols

  abbrev places : List ℕ
  places = begun.args.scratch.now.row_places

  rows_placed : Placed asked.size row places
  rows_placed = begun.requires.placed.2

  cols_placed : Placed asked.size col begun.args.scratch.now.col_places
  cols_placed = begun.requires.placed.1

  p_place : (begun.args.p < asked.size) × (col begun.args.p ≡ asked.column)
  p_place =
      let q = place_of J.sound.order.cols asked.column J.column_below in
      let e = begun.requires.placed.0 in
      (omega (arith, e, q.0), ap col e ∙ q.1)

  p_small : begun.args.p < max_size
  p_small = omega (arith, p_place.0, J.sound.sized)

  new_in : (k : ℕ) → k < length asked.new_rows → at asked.new_rows k < asked.size
  new_in = J.new_rise.below

  abbrev Sweeps : (c t : ℕ) → (ℕ → Bool) → Type 0
  Sweeps = Swept asked.size (rows asked.size asked.lists) row col

pub bounds-marks-p : goal.bounds-marks-p
bounds-marks-p c = omega (arith, p_small (goal.at.bounds-marks-p c).Start)

pub window_end-end-requires : goal.window_end-end-requires
window_end-end-requires c =
    let start = (goal.at.window_end-end-requires c).Start in
    let z = (J start).sound.sized in
    (p_small start, λ k h. omega (arith, z, new_in start k h), λ x u. omega (arith, z, placed_below (rows_placed start) x (rising_below (J start).new_rise x u)))

-- The window's end is known, and c's place is marked.
module _ (c : After-window_end-end) where
  abbrev start : Start
  start = (goal.at.After-window_end-end c).Start

  abbrev end : ℕ
  end = c.window_end-end.result

  ending : Ends (asked start).size (row start) (asked start).new_rows c.args.p end
  ending = ends (p_place start).0 (J start).new_rise (rows_placed start) c.window_end-end.ensures

  abbrev unset : List Bool
  unset = c.empty_marks-empty.result.marks

  unset_is : unset ≡ unmarked.marks
  unset_is = ap (λ (k : Marks). k.marks) c.empty_marks-empty.ensures

  unset_long : length unset ≡ max_mark
  unset_long = ap length unset_is ∙ unmarked_long

  begins : Sweeps start (asked start).column c.args.p (flagged (set unset c.args.p true))
  begins =
      subst (λ (y : ℕ). Sweeps start y c.args.p (flagged (set unset c.args.p true))) (p_place start).1
      (sweeping_none (rows_good (J start).sound) (cols_placed start) (rows_sound (J start)) c.args.p (p_place start).0
      (λ k h. ap (λ (l : List Bool). flagged l k) unset_is ∙ unmarked_flags k h)
      (stored_flag unset c.args.p (omega (arith, p_small start)) unset_long))

pub sweep-requires-clause-window : goal.sweep-requires-clause-window
sweep-requires-clause-window c =
    let windowed = (goal.at.sweep-requires-clause-window c).After-window_end-end in
    (omega (arith, (ending windowed).after), (ending windowed).within, placed_below c.requires.placed.1)

-- The places before the window's end have been swept.
module _ (c : After-sweep) where
  abbrev windowed : After-window_end-end
  windowed = (goal.at.After-sweep c).After-window_end-end

  abbrev start_of_sweep : Start
  start_of_sweep = (goal.at.After-sweep c).Start

  abbrev reached : ℕ → Bool
  reached = flagged c.sweep.new.marks

  swept : Sweeps start_of_sweep (asked start_of_sweep).column (end windowed) reached
  swept = c.sweep.ensures.1 (col start_of_sweep) (asked start_of_sweep).column (cols_placed start_of_sweep) (rows_sound (J start_of_sweep)) (begins windowed)

  -- The place of a new row is before that end, so its mark tells whether the row is met.
  told : (x : ℕ) → T (has (asked start_of_sweep).new_rows x) → T (reached (at (places start_of_sweep) x)) ↔ SweptColumn (J start_of_sweep) (col start_of_sweep (place (row start_of_sweep) (asked start_of_sweep).size x))
  told x u =
      let h = rising_below (J start_of_sweep).new_rise x u in
      let e = (rows_placed start_of_sweep).stand x h in
      let b = (place_of (J start_of_sweep).sound.order.rows x h).0 in
      let k = swept_are (rows_good (J start_of_sweep).sound) (cols_placed start_of_sweep) (rows_sound (J start_of_sweep)) swept _ b (omega (arith, (ending windowed).new_low x u)) in
      (λ t. k.0 (subst (λ (i : ℕ). T (reached i)) e t), λ r. subst (λ (i : ℕ). T (reached i)) (sym e) (k.1 r))

pub hits-met-requires : goal.hits-met-requires
hits-met-requires c =
    let start = (goal.at.hits-met-requires c).Start in
    λ k h.
    let b = new_in start k h in
    omega (arith, b, (J start).sound.sized, placed_below (rows_placed start) (at (asked start).new_rows k) b)

-- How many new rows are met is known.
module _ (c : After-hits-met) where
  abbrev after_sweep : After-sweep
  after_sweep = (goal.at.After-hits-met c).After-sweep

  abbrev start_of_hits_met : Start
  start_of_hits_met = (goal.at.After-hits-met c).Start

  abbrev new : List ℕ
  new = (asked start_of_hits_met).new_rows

  abbrev test : ℕ → Bool
  test k = reached after_sweep (at (places start_of_hits_met) (at new k))

  -- The tests are of new rows.
  met_of : (k : ℕ) → k < length new → T (test k) → Met (J start_of_hits_met) (at new k)
  met_of k h t = let u = among_has new k h in (u, (told after_sweep (at new k) u).0 t)

  none_met : c.hits-met.result ≡ 0 → (x : ℕ) → ¬ Met (J start_of_hits_met) x
  none_met z x μ =
      let a = has_among new x μ.0 in
      let t = subst (λ (i : ℕ). T (reached after_sweep (at (places start_of_hits_met) i))) (sym a.2) ((told after_sweep x μ.0).1 μ.1) in
      omega (arith, c.hits-met.ensures, some_counted test (length new) a.0 a.1 t)

  some_met : c.hits-met.result ≢ 0 → (x : ℕ) × Met (J start_of_hits_met) x
  some_met n = let a = counted_some test (length new) (omega (arith, c.hits-met.ensures, n)) in (at new a.0, met_of a.0 a.1 a.2)

  no_order : c.hits-met.result ≢ 0 → c.hits-met.result ≢ 1 → ¬ Triangular (Spike (replace.asked (asked start_of_hits_met))) (asked start_of_hits_met).size
  no_order n k =
      let a = counted_two test (length new) (omega (arith, c.hits-met.ensures, n, k)) in
      let i : a.0 < length new = omega (arith, a.2, a.3) in
      two_met (J start_of_hits_met) (at new a.0) (at new a.1) (λ z. omega (arith, a.2, (rising_once (J start_of_hits_met).new_rise).once a.0 a.1 i a.3 z)) (met_of a.0 i a.4) (met_of a.1 a.3 a.5)

pub returns-then-met-eq0 : goal.returns-then-met-eq0
returns-then-met-eq0 c =
    judged_singular c.requires.judgeable.0 (none_met (goal.at.returns-then-met-eq0 c).After-hits-met c.if-met-eq0.true)

pub returns-then-peel : goal.returns-then-peel
returns-then-peel c = judged_permuted c.requires.judgeable.0 (c.peel.ensures.yes c.if-peel.true)

-- What is known where the ways join.
module _ (c : Joined-met-eq1) where
  abbrev after_hits_met : After-hits-met
  after_hits_met = (goal.at.Joined-met-eq1 c).After-hits-met

  abbrev start_of_met_eq1 : Start
  start_of_met_eq1 = (goal.at.Joined-met-eq1 c).Start

  none : ¬ Triangular (Spike (replace.asked (asked start_of_met_eq1))) (asked start_of_met_eq1).size
  none = elim c.if-met-eq1.branch [
    | then-met-eq1+else-peel w ↦ w.peel.ensures.no w.if-peel.false
    | else-met-eq1 w ↦ no_order after_hits_met c.if-met-eq0.false w.if-met-eq1.false
  ]

  abbrev RowsPlaced : List ℕ → Type 0
  RowsPlaced = Placed (asked start_of_met_eq1).size (row start_of_met_eq1)

  rows_again : RowsPlaced c.if-met-eq1.scratch.row_places
  rows_again =
      elim c.if-met-eq1.branch [
        | then-met-eq1+else-peel w ↦ subst (λ (s : Scratch). RowsPlaced s.row_places) (sym w.scratch-is) w.place_all.ensures
        | else-met-eq1 w ↦ subst (λ (s : Scratch). RowsPlaced s.row_places) (sym w.scratch-is) (rows_placed start_of_met_eq1)
      ]

  abbrev ColsPlaced : List ℕ → Type 0
  ColsPlaced = Placed (asked start_of_met_eq1).size (col start_of_met_eq1)

  cols_again : ColsPlaced c.if-met-eq1.scratch.col_places
  cols_again =
      elim c.if-met-eq1.branch [
        | then-met-eq1+else-peel w ↦ subst (λ (s : Scratch). ColsPlaced s.col_places) (sym w.scratch-is) w.place_all-then-met-eq1.ensures
        | else-met-eq1 w ↦ subst (λ (s : Scratch). ColsPlaced s.col_places) (sym w.scratch-is) (cols_placed start_of_met_eq1)
      ]

  met : (x : ℕ) × Met (J start_of_met_eq1) x
  met = some_met after_hits_met c.if-met-eq0.false

pub sweep-requires-2-clause-window : goal.sweep-requires-2-clause-window
sweep-requires-2-clause-window c =
    ((ending (goal.at.sweep-requires-2-clause-window c).After-window_end-end).within, omega arith, placed_below (cols_again (goal.at.sweep-requires-2-clause-window c).Joined-met-eq1))

-- All places have been swept.
module _ (c : After-sweep-2) where
  abbrev start_of_sweep_2 : Start
  start_of_sweep_2 = (goal.at.After-sweep-2 c).Start

  found : Reached (ByRows (rows (asked start_of_sweep_2).size (asked start_of_sweep_2).lists)) (asked start_of_sweep_2).size (row start_of_sweep_2) (col start_of_sweep_2) (asked start_of_sweep_2).column (flagged c.sweep-2.new.marks)
  found =
      let L = cols_again (goal.at.After-sweep-2 c).Joined-met-eq1 in
      let S = rows_sound (J start_of_sweep_2) in
      let W = c.sweep-2.ensures.1 (col start_of_sweep_2) (asked start_of_sweep_2).column L S (swept (goal.at.After-sweep-2 c).After-sweep) in
      sweeping_all (rows_good (J start_of_sweep_2).sound) L S (omega arith) W

pub eliminate-requires : goal.eliminate-requires
eliminate-requires c =
    let start = (goal.at.eliminate-requires c).Start in
    let joined_met_eq1 = (goal.at.eliminate-requires c).Joined-met-eq1 in
    record {
      in_range = ((J start).sound.sized.1, c.requires.judgeable.1, placed_below (rows_again joined_met_eq1));
      new_rise = ((J start).new_rise, c_before_top (J start) (met joined_met_eq1).0 (met joined_met_eq1).1 c.requires.placed.0 (rows_again joined_met_eq1));
    }

pub returns : goal.returns
returns c =
    let joined_met_eq1 = (goal.at.returns c).Joined-met-eq1 in
    judged_elimination c.requires.judgeable.0 (met joined_met_eq1).0 (met joined_met_eq1).1 (none joined_met_eq1) c.requires.placed.0 (found (goal.at.returns c).After-sweep-2) (rows_again joined_met_eq1) c.eliminate.ensures
