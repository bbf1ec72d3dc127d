-- The three verdicts from what the sweeps and the peel find. Rests on specs/Judge.antt, Sweeping.antt, Numbered.antt, `pattern`,
-- `listing` and `register`.
use mathlib.Core.Bool.{Bool}
use mathlib.Core.List.{List}
use mathlib.Core.Logic.{◌≢◌, ◌↔◌}
use mathlib.Core.Path.{◌≡◌, refl, sym, ap, ap₂, ◌∙◌, subst}
use Prim.Native.Nat.{ℕ, ◌+◌, ◌-◌, ◌≤◌, ◌<◌}
use native.Mathlib.Omega.{arith}
use lib.Dec.{T}
use lib.ListN.{length}
use lib.Seq.{get_or-take}
use Rattle.pattern.specs.Choice.{NoChoice}
use Rattle.pattern.specs.Order.{Sound, Triangular, Paired}
use Rattle.pattern.specs.Pattern.{has}
use Rattle.pattern.specs.Peel.{Whole}
use Rattle.pattern.specs.Places.{at, Same, place}
use Rattle.pattern.specs.Reach.{Reach}
use Rattle.pattern.specs.Series.{greatest, numbers}
use Rattle.pattern.specs.Verdict.{size, row_at, col_at, old_place, c_place, Old, spiked_columns, Spike, Taken, Permuted, Singular, Elimination, to_last, top_place, Eta, IsElimination}
use Rattle.pattern.proofs.Computed.{whole_judged}
use Rattle.pattern.proofs.Finding.{place_at, place_of}
use Rattle.pattern.proofs.Greatest.{greatest_high, greatest_same}
use Rattle.pattern.proofs.Growing.{whole_keys}
use Rattle.pattern.proofs.NoChoice.{unreached_no_choice}
use Rattle.pattern.proofs.Numbers.{numbers_rise, numbers_are}
use Rattle.pattern.proofs.Pairing.{sound_as}
use Rattle.pattern.proofs.Reaching.{reach_same}
use Rattle.pattern.proofs.Rises.{rising_below}
use Rattle.pattern.proofs.SomeChoice.{reach_later, reached_choice}
use Rattle.pattern.proofs.TwoChoices.{two_reached}
use Rattle.pattern.proofs.Verdicts.{old_sound, spiked, spike_rows}
use Rattle.listing.specs.Held.{over}
use Rattle.register.specs.Lent.{rows}
use Rattle.register.specs.Order.{Placed}
use Rattle.register.proofs.Orders.{top_is}
use Rattle.judge.specs.Call.{Call, asked}
use Rattle.judge.specs.Judge.{Judgeable, Judges, BumpAndEta}
use Rattle.judge.specs.Peel.{Peeled}
use Rattle.judge.specs.Reach.{ByRows, stands_at}
use Rattle.judge.specs.declared.Judgment.{Judgment}
use Rattle.judge.specs.declared.Judgment.TheVariants as judgment
use Rattle.judge.proofs.Asked.{call_size, call_judged, call_place}
use Rattle.judge.proofs.Numbered.{stands_only, only_stands, standing_same}
use Rattle.judge.proofs.Sweeping.{Reached}

module _ {a : Call} (J : Judgeable a) where
  abbrev m : ℕ
  m = a.size

  abbrev row : ℕ → ℕ
  row = at a.lists.order_rows

  abbrev col : ℕ → ℕ
  col = at a.lists.order_cols

  t : Taken (asked a)
  t = call_judged J

  -- ---- The order, read from the lent lists and from their first places

  same_rows : Same m row (row_at (asked a))
  same_rows i h = sym (get_or-take m a.lists.order_rows i 0 h)

  same_cols : Same m col (col_at (asked a))
  same_cols i h = sym (get_or-take m a.lists.order_cols i 0 h)

  -- The place of a number in the one is that in the other.
  old_places : (y : ℕ) → y < m → place col m y ≡ old_place (asked a) y
  old_places y h =
      let p = place_of J.sound.order.cols y h in
      sym (place_at (old_sound (asked a) t).cols (place col m y) (omega (arith, p.0, call_size J)))
      ∙ ap (old_place (asked a)) (sym (same_cols (place col m y) p.0) ∙ p.1)

  row_places : (x : ℕ) → x < m → place row m x ≡ place (row_at (asked a)) (size (asked a)) x
  row_places x h =
      let p = place_of J.sound.order.rows x h in
      sym (place_at (old_sound (asked a) t).rows (place row m x) (omega (arith, p.0, call_size J)))
      ∙ ap (place (row_at (asked a)) (size (asked a))) (sym (same_rows (place row m x) p.0) ∙ p.1)

  top_same : top_place row m a.new_rows ≡ top_place (row_at (asked a)) (size (asked a)) a.new_rows
  top_same = greatest_same (place row m) (place (row_at (asked a)) (size (asked a))) a.new_rows (λ x u. row_places x (rising_below J.new_rise x u))

  -- The row listing has the same entries, so the order is sound for it too.
  pub rows_sound : Sound (ByRows (rows m a.lists)) m row col
  rows_sound = sound_as J.sound.agree J.sound.order

  -- ---- PERMUTED

  pub judged_permuted : {row_places col_places : List ℕ} → Peeled m (spiked_columns (asked a)) col row_places col_places
      → Judges a row_places col_places a.eta judgment.Permuted
  judged_permuted k =
      record {
        verdict = Permuted k.rows k.cols;
        right = whole_judged (asked a) t (subst (λ (n : ℕ). Whole (Spike (asked a)) n (old_place (asked a)) k.rows k.cols) (sym (call_size J)) (whole_keys old_places k.whole));
        tells = (refl, refl, k.rows_placed, k.cols_placed);
      }

  -- ---- SINGULAR and ELIMINATION

  abbrev ReachedColumn : ℕ → Type 0
  ReachedColumn = Reach (Old (asked a)) (size (asked a)) (row_at (asked a)) (col_at (asked a)) a.column

  abbrev Pair : ℕ → ℕ → Type 0
  Pair = Paired (size (asked a)) (row_at (asked a)) (col_at (asked a))

  -- A pair stands at the place of its row.
  pair_place : (x y : ℕ) (d : Pair x y) → (d.0 < m) × (place row m x ≡ d.0)
  pair_place x y d =
      let b : d.0 < m = omega (arith, d.1, call_size J) in
      (b, ap (place row m) (sym (same_rows d.0 b ∙ d.2)) ∙ place_at J.sound.order.rows d.0 b)

  -- The same of the row listing and the lent order, which is what is swept.
  abbrev pub SweptColumn : ℕ → Type 0
  SweptColumn = Reach (ByRows (rows m a.lists)) m row col a.column

  same_reach : (y : ℕ) → SweptColumn y ↔ ReachedColumn y
  same_reach y = (
    reach_same (λ r y e. (J.sound.agree r y).1 e) (sym (call_size J)) same_rows same_cols,
    reach_same (λ r y e. (J.sound.agree r y).0 e) (call_size J) (λ i b. sym (same_rows i (omega (arith, call_size J)))) (λ i b. sym (same_cols i (omega (arith, call_size J)))),
  )

  -- A row at the place of a reached column is its pair, and the other way round.
  at_reached : (x : ℕ) → x < m → SweptColumn (col (place row m x)) → (y : ℕ) × ReachedColumn y × Pair x y
  at_reached x h u =
      let q = place_of J.sound.order.rows x h in
      let s : ℕ = place row m x in
      (col_at (asked a) s, subst ReachedColumn (same_cols s q.0) ((same_reach (col s)).0 u), (s, omega (arith, q.0, call_size J), sym (same_rows s q.0) ∙ q.1, refl))

  reached_at : (y x : ℕ) → ReachedColumn y → Pair x y → (x < m) × SweptColumn (col (place row m x))
  reached_at y x k d =
      let s : ℕ = d.0 in
      let w = pair_place x y d in (
        omega (arith, J.sound.order.rows.below s w.0, same_rows s w.0, d.2),
        subst (λ (i : ℕ). SweptColumn (col i)) (sym w.1) ((same_reach (col s)).1 (subst ReachedColumn (sym d.3 ∙ sym (same_cols s w.0)) k)),
      )

  -- A new row at the place of a reached column.
  abbrev pub Met : ℕ → Type 0
  Met x = T (has a.new_rows x) × SweptColumn (col (place row m x))

  met_paired : (x : ℕ) → Met x → (y : ℕ) × ReachedColumn y × Pair x y
  met_paired x μ = at_reached x (rising_below J.new_rise x μ.0) μ.1

  pub judged_singular : {row_places col_places : List ℕ} → ((x : ℕ) → ¬ Met x) → Judges a row_places col_places a.eta judgment.Singular
  judged_singular none =
      record {
        verdict = Singular;
        right = unreached_no_choice (old_sound (asked a) t) (spiked (asked a) t) t.column_below (λ y x k d n. none x (n, (reached_at y x k d).1));
        tells = (refl, refl);
      }

  -- Two of them: no order is sound.
  pub two_met : (x z : ℕ) → x ≢ z → Met x → Met z → ¬ Triangular (Spike (asked a)) m
  two_met x z n μ ν =
      let k = met_paired x μ in
      let l = met_paired z ν in
      subst (λ (n : ℕ). ¬ Triangular (Spike (asked a)) n) (call_size J)
      (two_reached (old_sound (asked a) t) (spiked (asked a) t) (spike_rows (asked a) t) t.column_below k.0 x k.1 k.2 μ.0 l.0 z l.1 l.2 ν.0 n)

  -- A full choice is left where there is one.
  some_choice : (x : ℕ) → Met x → ¬ NoChoice (Spike (asked a)) (size (asked a))
  some_choice x μ none_left =
      let k = met_paired x μ in
      let f = reached_choice (old_sound (asked a) t) (spiked (asked a) t) t.column_below k.0 x k.1 k.2 μ.0 in
      none_left f.0 f.1

  -- A way goes to later places only, so c's place is not past that of such a row, and the bump's difference is a true one.
  pub c_before_top : {c_at : ℕ} {places : List ℕ} (x : ℕ) → Met x → c_at ≡ place col m a.column → Placed m row places → c_at ≤ greatest (at places) a.new_rows
  c_before_top {places = places} x μ at_c L =
      let h = rising_below J.new_rise x μ.0 in
      let s = place_at J.sound.order.cols (place row m x) (place_of J.sound.order.rows x h).0 in
      omega (arith, at_c, reach_later rows_sound J.column_below μ.1, s, L.stand x h, greatest_high (at places) a.new_rows x μ.0)

  -- One is met, no order is sound, and all of Reach(c) is marked.
  module _ {p : ℕ → Bool} {c_at : ℕ} (x : ℕ) (μ : Met x) (none : ¬ Triangular (Spike (asked a)) m) (at_c : c_at ≡ place col m a.column)
      (R : Reached (ByRows (rows m a.lists)) m row col a.column p) where
    abbrev eta_rows : List ℕ
    eta_rows = numbers (stands_at p (place row m) c_at) m

    eta_are : (r : ℕ) → T (has eta_rows r) ↔ Eta (asked a) r
    eta_are r = (λ h. let u = (numbers_are (stands_at p (place row m) c_at) m r).0 h in there u.0 (stands_only p (place row m) c_at r u.1), back)
      where
        c_there : col c_at ≡ a.column
        c_there = ap col at_c ∙ (place_of J.sound.order.cols a.column J.column_below).1

        -- The mark of a row's place.
        marked : r < m → T (p (place row m r)) ↔ SweptColumn (col (place row m r))
        marked h = R.are (place row m r) (place_of J.sound.order.rows r h).0

        -- The pair of `r` and `y` is not that of `c` where the place of `r` is not `c`'s.
        apart : (y : ℕ) → Pair r y → place row m r ≢ c_at → y ≢ a.column
        apart y d n z =
            let w = pair_place r y d in
            n (w.1 ∙ sym (place_at J.sound.order.cols d.0 w.0) ∙ ap (place col m) (same_cols d.0 w.0 ∙ d.3 ∙ z) ∙ sym at_c)

        there : r < m → T (p (place row m r)) × (place row m r ≢ c_at) → Eta (asked a) r
        there h u = let k = at_reached r h ((marked h).0 u.0) in (k.0, k.1, apart k.0 k.2 u.1, k.2)

        back : Eta (asked a) r → T (has eta_rows r)
        back e =
            let k = reached_at e.0 r e.1 e.3 in
            let w = pair_place r e.0 e.3 in
            (numbers_are (stands_at p (place row m) c_at) m r).1
            (k.0, only_stands p (place row m) c_at r ((marked k.0).1 k.1) (λ z. e.2 (sym e.3.3 ∙ sym (same_cols e.3.0 w.0) ∙ ap col (sym w.1 ∙ z) ∙ c_there)))

    abbrev bump_of : ℕ
    bump_of = top_place (row_at (asked a)) (size (asked a)) a.new_rows - c_place (asked a) + 1

    eliminated : IsElimination (asked a) (to_last (c_place (asked a)) (asked a).order_rows) (to_last (c_place (asked a)) (asked a).order_cols) bump_of eta_rows
    eliminated =
        record {
          not_singular = some_choice x μ;
          not_permuted = rw (call_size J) none;
          rows_after = refl;
          cols_after = refl;
          bump_is = refl;
          eta_rises = rw (call_size J) (numbers_rise (stands_at p (place row m) c_at) m);
          eta_are = eta_are;
        }

    pub judged_elimination : {row_places col_places places eta' : List ℕ} {j : Judgment} → Placed m row places → BumpAndEta m places a.new_rows c_at p a.eta j eta'
        → Judges a row_places col_places eta' j
    judged_elimination {places = places} L k =
        record {
          verdict = Elimination (to_last (c_place (asked a)) (asked a).order_rows) (to_last (c_place (asked a)) (asked a).order_cols) bump_of eta_rows;
          right = eliminated;
          tells = (k.told ∙ ap₂ judgment.Elimination same_bump (ap length same_rows_told), k.written ∙ ap (λ (l : List ℕ). over l a.eta) same_rows_told);
        }
      where
        same_rows_told : numbers (stands_at p (at places) c_at) m ≡ eta_rows
        same_rows_told = standing_same p c_at L

        same_bump : greatest (at places) a.new_rows - c_at + 1 ≡ bump_of
        same_bump = omega (arith, top_is L J.new_rise, top_same, call_place J)
