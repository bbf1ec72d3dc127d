-- A verdict, computed, and that it is right: so each replacement that is taken has one, and no other.
-- Rests on Peeled.antt, Reaching.antt, Numbers.antt and Verdicts.antt.
use mathlib.Core.Bool.{Bool, true, false, cond, not, ◌&&◌}
use mathlib.Core.List.{List}
use mathlib.Core.Logic.{◌↔◌, ◌⊎◌, inl, inr}
use mathlib.Core.Path.{◌≡◌, refl, sym, ap, ◌∙◌, subst}
use Prim.Native.Nat.{ℕ, ◌+◌, ◌-◌, ◌<◌}
use native.Mathlib.Omega.{arith}
use lib.Dec.{T, T_not, not_T, eqb, eqb→eq}
use lib.ListN.{length}
use Rattle.pattern.specs.Choice.{NoChoice}
use Rattle.pattern.specs.Order.{Sound, Paired}
use Rattle.pattern.specs.Pattern.{has}
use Rattle.pattern.specs.Peel.{Whole}
use Rattle.pattern.specs.Series.{numbers}
use Rattle.pattern.specs.Reach.{Reach}
use Rattle.pattern.specs.Verdict.{Replacement, size, row_at, col_at, old_place, c_place, Old, spiked_columns, Spike, Taken, Verdict, Singular, Permuted, Elimination, to_last, top_place, Eta, Judged}
use Rattle.pattern.proofs.Tests.{T_true, T_false, eq-eqb, and_both, and_left, and_right, meets, meets_some, some_meets}
use Rattle.pattern.proofs.Pairing.{partner, paired_partner, order_choice}
use Rattle.pattern.proofs.Leading.{greedy_leads}
use Rattle.pattern.proofs.NoChoice.{unreached_no_choice}
use Rattle.pattern.proofs.SomeChoice.{reached_choice}
use Rattle.pattern.proofs.Peeled.{peeled, Full, Stuck, peeled_is}
use Rattle.pattern.proofs.Reaching.{reached, reached_rows}
use Rattle.pattern.proofs.Numbers.{numbers_rise, numbers_are}
use Rattle.pattern.proofs.Verdicts.{old_sound, spiked, spike_rows, old_place_once}

-- ---- The verdict

-- The rows paired with the columns reached from c.
unfoldable pub reach_rows : Replacement → List ℕ
reach_rows a = reached a.columns a.replaced (row_at a) (col_at a) (size a)

-- Those of them other than the row of c.
unfoldable pub eta_rows : Replacement → List ℕ
eta_rows a = numbers (λ r. has (reach_rows a) r && not (eqb r (partner (size a) (row_at a) (col_at a) a.replaced))) (size a)

-- Where the peel stops short, it is seen from the reach whether a full choice is left.
unfoldable pub unpermuted : Replacement → Bool → Verdict
unpermuted a true =
    Elimination (to_last (c_place a) a.order_rows) (to_last (c_place a) a.order_cols)
    (top_place (row_at a) (size a) a.new_rows - c_place a + 1) (eta_rows a)
unpermuted a false = Singular

-- The order of the peel, where that comes to full length.
unfoldable pub after_peel : Replacement → List ℕ × List ℕ → Verdict
after_peel a g = cond (eqb (length g.0) (size a)) (Permuted g.0 g.1) (unpermuted a (meets a.new_rows (reach_rows a)))

unfoldable pub verdict_of : Replacement → Verdict
verdict_of a = after_peel a (peeled (spiked_columns a) (size a) (col_at a))

-- ---- It is right

module _ (a : Replacement) (t : Taken a) where
  -- the pairs of the old order
  s : Sound (Old a) (size a) (row_at a) (col_at a)
  s = old_sound a t

  reach_rows_are : (r : ℕ)
      → T (has (reach_rows a) r) ↔ ((x : ℕ) × Reach (Old a) (size a) (row_at a) (col_at a) a.replaced x × Paired (size a) (row_at a) (col_at a) r x)
  unfolding reach_rows
  reach_rows_are = reached_rows a.columns a.replaced (row_at a) (col_at a) (size a) s t.column_below

  eta_rows_are : (r : ℕ) → T (has (eta_rows a) r) ↔ Eta a r
  unfolding eta_rows
  eta_rows_are r = (λ h. there ((numbers_are test (size a) r).0 h), λ e. (numbers_are test (size a) r).1 (back e))
    where
      ρ : ℕ → ℕ
      ρ = partner (size a) (row_at a) (col_at a)

      test : ℕ → Bool
      test r = has (reach_rows a) r && not (eqb r (ρ a.replaced))

      there : (r < size a) × T (test r) → Eta a r
      there u =
          let x = (reach_rows_are r).0 (and_left (has (reach_rows a) r) _ u.1) in (
            x.0,
            x.1,
            λ e. T_not (eqb r (ρ a.replaced)) (and_right (has (reach_rows a) r) _ u.1) (eq-eqb r (ρ a.replaced) (sym (paired_partner s r x.0 x.2) ∙ ap ρ e)),
            x.2,
          )

      back : Eta a r → (r < size a) × T (test r)
      back x = (
        omega (arith, x.3.2, s.rows.below x.3.0 x.3.1),
        and_both (has (reach_rows a) r) _ ((reach_rows_are r).1 (x.0, x.1, x.3)) (not_T (eqb r (ρ a.replaced)) (λ u. other (eqb→eq r (ρ a.replaced) u))),
      )
        where
          low : x.0 < size a
          low = omega (arith, x.3.3, s.cols.below x.3.0 x.3.1)

          other : r ≡ ρ a.replaced → ⊥
          other e = x.2 ((order_choice s).rows.once x.0 a.replaced low t.column_below (paired_partner s r x.0 x.3 ∙ e))

  -- A new row among the reached rows leaves a full choice, and none leaves no choice.
  meets_choice : T (meets a.new_rows (reach_rows a)) → ¬ NoChoice (Spike a) (size a)
  meets_choice u n =
      let r = meets_some a.new_rows (reach_rows a) u in
      let x = (reach_rows_are r.0).0 r.2 in
      let k = reached_choice s (spiked a t) t.column_below x.0 r.0 x.1 x.2 r.1 in
      n k.0 k.1

  apart_no_choice : ¬ T (meets a.new_rows (reach_rows a)) → NoChoice (Spike a) (size a)
  apart_no_choice n =
      unreached_no_choice s (spiked a t) t.column_below (λ x r k p h. n (some_meets a.new_rows (reach_rows a) r h ((reach_rows_are r).1 (x, k, p))))

  -- A whole greedy peel by old places is the order of PERMUTED.
  pub whole_judged : {rows cols : List ℕ} → Whole (Spike a) (size a) (old_place a) rows cols → Judged a (Permuted rows cols)
  whole_judged w = record { row_count = w.row_count; col_count = w.col_count; leading = greedy_leads (spike_rows a t) (old_place_once a t) w.greedy }

  full_right : (g : List ℕ × List ℕ) → Full (spiked_columns a) (size a) (old_place a) g → Judged a (after_peel a g)
  unfolding after_peel
  full_right g f =
      subst (λ (b : Bool). Judged a (cond b (Permuted g.0 g.1) (unpermuted a (meets a.new_rows (reach_rows a)))))
      (sym (T_true (eqb (length g.0) (size a)) (eq-eqb (length g.0) (size a) f.row_count)))
      (whole_judged f)

  stuck_right : (g : List ℕ × List ℕ) → Stuck (spiked_columns a) (size a) g → Judged a (after_peel a g)
  unfolding after_peel unpermuted eta_rows
  stuck_right g f =
      subst (λ (b : Bool). Judged a (cond b (Permuted g.0 g.1) (unpermuted a (meets a.new_rows (reach_rows a)))))
      (sym (T_false (eqb (length g.0) (size a)) (λ u. short (eqb→eq (length g.0) (size a) u))))
      (done (meets a.new_rows (reach_rows a)) refl)
    where
      short : length g.0 ≡ size a → ⊥
      short e = omega (arith, f.0)

      done : (b : Bool) → meets a.new_rows (reach_rows a) ≡ b → Judged a (unpermuted a b)
      done false e = apart_no_choice (λ u. subst T e u)
      done true e =
          record {
            not_singular = meets_choice (subst T (sym e) tt);
            not_permuted = f.1;
            rows_after = refl;
            cols_after = refl;
            bump_is = refl;
            eta_rises = numbers_rise _ (size a);
            eta_are = eta_rows_are;
          }

  pub verdict_right : Judged a (verdict_of a)
  unfolding verdict_of
  verdict_right = go (peeled_is (spiked_columns a) (size a) (spike_rows a t) (col_at a) s.cols)
    where
      g : List ℕ × List ℕ
      g = peeled (spiked_columns a) (size a) (col_at a)

      go : Full (spiked_columns a) (size a) (old_place a) g ⊎ Stuck (spiked_columns a) (size a) g → Judged a (after_peel a g)
      go (inl f) = full_right g f
      go (inr f) = stuck_right g f
