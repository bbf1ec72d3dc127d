-- What the statement of a verdict comes to: each verdict is given exactly when the third condition says so, no two verdicts
-- are right for one replacement, the order after it is sound, and the bump's difference is a true one.
-- Rests on Leading.antt, NoChoice.antt, SomeChoice.antt, ToLast.antt, Rises.antt and Greatest.antt.
use mathlib.Core.List.{List, []}
use mathlib.Core.Logic.{◌≢◌, ◌↔◌}
use mathlib.Core.Path.{◌≡◌, refl, sym, ap, ap₂, ◌∙◌, subst, subst₂}
use Prim.Native.Nat.{ℕ, ◌≤◌, ◌<◌}
use native.Mathlib.Decide.{ℕ_discrete, dec_lt}
use native.Mathlib.Omega.{arith}
use lib.Dec.{T}
use lib.ListN.{length}
use lib.Seq.{ext_get_or, get_or-set_same, get_or-set_other}
use Rattle.pattern.specs.Choice.{NoChoice}
use Rattle.pattern.specs.Order.{Sound, SoundOrder, Triangular, Paired}
use Rattle.pattern.specs.Pattern.{Pattern, has, column, RowsBelow, Spiked, Cleared}
use Rattle.pattern.specs.Places.{at, Once, Same, place}
use Rattle.pattern.specs.Reach.{Reach}
use Rattle.pattern.specs.Verdict.{Replacement, size, row_at, col_at, old_place, c_place, c_row, Old, spiked_columns, Spike, Taken, Verdict, Singular, Permuted, Elimination, top_place, IsPermuted, IsElimination, Judged}
use Rattle.pattern.proofs.Finding.{place_at, place_once}
use Rattle.pattern.proofs.Pairing.{col_place, order_choice}
use Rattle.pattern.proofs.Leading.{greedy_leads, own_greedy, leading_unique}
use Rattle.pattern.proofs.NoChoice.{unreached_no_choice}
use Rattle.pattern.proofs.SomeChoice.{reach_later}
use Rattle.pattern.proofs.ToLast.{to_last_sound}
use Rattle.pattern.proofs.Rises.{rising_below, rising_same}
use Rattle.pattern.proofs.Greatest.{greatest_high}

-- ---- Each verdict exactly when the third condition says so

module _ (a : Replacement) where
  pub singular_exactly : (v : Verdict) → Judged a v → (v ≡ Singular) ↔ NoChoice (Spike a) (size a)
  singular_exactly v j = (λ e. subst (Judged a) e j, back v j)
    where
      back : (v : Verdict) → Judged a v → NoChoice (Spike a) (size a) → v ≡ Singular
      back Singular j n = refl
      back (Permuted p q) j n = absurd (n _ (order_choice j.leading.sound))
      back (Elimination p q b e) j n = absurd (j.not_singular n)

  pub permuted_exactly : (v : Verdict) → Judged a v → ((p : List ℕ) × (q : List ℕ) × (v ≡ Permuted p q)) ↔ Triangular (Spike a) (size a)
  permuted_exactly v j = (λ e. there (subst (Judged a) e.2 j), back v j)
    where
      there : {p q : List ℕ} → IsPermuted a p q → Triangular (Spike a) (size a)
      there {p} {q} k = (at p, at q, k.leading.sound)

      back : (v : Verdict) → Judged a v → Triangular (Spike a) (size a) → (p : List ℕ) × (q : List ℕ) × (v ≡ Permuted p q)
      back Singular j t = absurd (j _ (order_choice t.2))
      back (Permuted p q) j t = (p, q, refl)
      back (Elimination p q b e) j t = absurd (j.not_permuted t)

  pub elimination_exactly : (v : Verdict) → Judged a v
      → ((p : List ℕ) × (q : List ℕ) × (b : ℕ) × (e : List ℕ) × (v ≡ Elimination p q b e)) ↔ (¬ NoChoice (Spike a) (size a) × ¬ Triangular (Spike a) (size a))
  elimination_exactly v j = (λ e. there (subst (Judged a) e.4 j), back v j)
    where
      there : {p q e : List ℕ} {b : ℕ} → IsElimination a p q b e → ¬ NoChoice (Spike a) (size a) × ¬ Triangular (Spike a) (size a)
      there k = (k.not_singular, k.not_permuted)

      back : (v : Verdict) → Judged a v → ¬ NoChoice (Spike a) (size a) × ¬ Triangular (Spike a) (size a)
          → (p : List ℕ) × (q : List ℕ) × (b : ℕ) × (e : List ℕ) × (v ≡ Elimination p q b e)
      back Singular j n = absurd (n.0 j)
      back (Permuted p q) j n = absurd (n.1 (at p, at q, j.leading.sound))
      back (Elimination p q b e) j n = (p, q, b, e, refl)

-- ---- What is taken

module _ (a : Replacement) (t : Taken a) where
  pub old_sound : Sound (Old a) (size a) (row_at a) (col_at a)
  old_sound = t.register.order.sound

  -- `set` makes the spiked pattern.
  pub spiked : Spiked (Old a) (Spike a) a.replaced (λ r. T (has a.new_rows r))
  spiked =
      record {
        others = λ r y n. (λ e. there r (sym (kept y n)) e, λ e. there r (kept y n) e);
        changed = λ r. (λ e. there r new e, λ e. there r (sym new) e);
      }
    where
      there : {k l : List ℕ} (r : ℕ) → k ≡ l → T (has k r) → T (has l r)
      there r e h = subst (λ (x : List ℕ). T (has x r)) e h

      kept : (y : ℕ) → y ≢ a.replaced → column (spiked_columns a) y ≡ column a.columns y
      kept y n = get_or-set_other a.columns a.replaced y a.new_rows [] n

      new : column (spiked_columns a) a.replaced ≡ a.new_rows
      new = get_or-set_same a.columns a.replaced a.new_rows [] t.column_below

  -- Its rows are in range.
  pub spike_rows : RowsBelow (Spike a) (size a)
  spike_rows r y e = go (ℕ_discrete y a.replaced)
    where
      go : Dec (y ≡ a.replaced) → r < size a
      go (yes u) = rising_below t.new_rise r ((spiked.changed r).0 (subst (Spike a r) u e))
      go (no u) = t.register.rows_below r y ((spiked.others r y u).1 e)

  -- Columns have different old places.
  pub old_place_once : Once (old_place a) (size a) (size a)
  old_place_once = place_once old_sound.cols

  -- ---- No two verdicts are right for one replacement

  alike : {k l : List ℕ} → length k ≡ size a → length l ≡ size a → Same (size a) (at k) (at l) → k ≡ l
  alike {k} {l} u v h = ext_get_or 0 k l (u ∙ sym v) (λ i z. h i (omega arith))

  permuted_once : {p q p' q' : List ℕ} → IsPermuted a p q → IsPermuted a p' q' → Permuted p q ≡ Permuted p' q'
  permuted_once {p} {q} {p'} {q'} x y = ap₂ Permuted (alike x.row_count y.row_count same.0) (alike x.col_count y.col_count same.1)
    where
      same : Same (size a) (at p) (at p') × Same (size a) (at q) (at q')
      same = leading_unique spike_rows old_place_once x.leading y.leading

  elimination_once : {p q e p' q' e' : List ℕ} {b b' : ℕ} → IsElimination a p q b e → IsElimination a p' q' b' e'
      → Elimination p q b e ≡ Elimination p' q' b' e'
  elimination_once {e = e} {e' = e'} x y =
      cc (
        x.rows_after ∙ sym y.rows_after,
        x.cols_after ∙ sym y.cols_after,
        x.bump_is ∙ sym y.bump_is,
        rising_same e e' x.eta_rises y.eta_rises (λ r h. (y.eta_are r).1 ((x.eta_are r).0 h)) (λ r h. (x.eta_are r).1 ((y.eta_are r).0 h)),
      )

  pub judged_unique : (v w : Verdict) → Judged a v → Judged a w → v ≡ w
  judged_unique Singular w x y = sym ((singular_exactly a w y).1 x)
  judged_unique (Permuted p q) Singular x y = (singular_exactly a (Permuted p q) x).1 y
  judged_unique (Permuted p q) (Permuted p' q') x y = permuted_once x y
  judged_unique (Permuted p q) (Elimination p' q' b' e') x y = absurd (y.not_permuted (at p, at q, x.leading.sound))
  judged_unique (Elimination p q b e) Singular x y = absurd (x.not_singular y)
  judged_unique (Elimination p q b e) (Permuted p' q') x y = absurd (x.not_permuted (at p', at q', y.leading.sound))
  judged_unique (Elimination p q b e) (Elimination p' q' b' e') x y = elimination_once x y

  -- ---- The order after a verdict, and the bump

  -- Where the old order is still sound, it stays: read as old places it is 0, 1 .. m - 1, and nothing precedes that.
  pub order_stays : Sound (Spike a) (size a) (row_at a) (col_at a) → Judged a (Permuted a.order_rows a.order_cols)
  order_stays s =
      record {
        row_count = t.register.order.row_count;
        col_count = t.register.order.col_count;
        leading = greedy_leads spike_rows old_place_once (own_greedy spike_rows s);
      }

  -- With the row of c cleared and given the single entry at c, the moved order is sound.
  pub elimination_sound : {p q e : List ℕ} {b : ℕ} {E'' : Pattern} → IsElimination a p q b e
      → Cleared (Spike a) E'' (c_row a) a.replaced → SoundOrder E'' (size a) p q
  elimination_sound {E'' = E''} x k =
      subst₂ (SoundOrder E'' (size a)) (sym x.rows_after) (sym x.cols_after)
      (to_last_sound (c_place a) here.0 t.register.order (subst (λ (y : ℕ). Spiked (Old a) (Spike a) y (λ r. T (has a.new_rows r))) (sym here.1) spiked)
      (subst (Cleared (Spike a) E'' (c_row a)) (sym here.1) k))
    where
      here : (c_place a < size a) × (col_at a (c_place a) ≡ a.replaced)
      here = col_place old_sound a.replaced t.column_below

  -- The bump's difference never goes below zero: some new row's old place is at or after that of c.
  pub bump_true : {p q e : List ℕ} {b : ℕ} → IsElimination a p q b e → c_place a ≤ top_place (row_at a) (size a) a.new_rows
  bump_true x = go (dec_lt (top_place (row_at a) (size a) a.new_rows) (c_place a))
    where
      go : Dec (top_place (row_at a) (size a) a.new_rows < c_place a)
          → c_place a ≤ top_place (row_at a) (size a) a.new_rows
      go (no h) = omega arith
      go (yes h) = absurd (x.not_singular (unreached_no_choice old_sound spiked t.column_below low))
        where
          low : (y r : ℕ) → Reach (Old a) (size a) (row_at a) (col_at a) a.replaced y → Paired (size a) (row_at a) (col_at a) r y
              → ¬ T (has a.new_rows r)
          low y r k d n =
              omega (
                arith,
                greatest_high (place (row_at a) (size a)) a.new_rows r n,
                reach_later old_sound t.column_below k,
                ap (old_place a) d.3,
                ap (place (row_at a) (size a)) d.2,
                place_at old_sound.cols d.0 d.1,
                place_at old_sound.rows d.0 d.1,
              )
