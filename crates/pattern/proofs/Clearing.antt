-- What a replacement makes of the columns: with column c exchanged, and with row r cleared and then given the single entry
-- (r, c). Both list patterns, and the second has no more entries than the first. Rests on Verdicts.antt and Tallies.antt.
use mathlib.Core.Bool.{Bool, cond}
use mathlib.Core.List.{List, []}
use mathlib.Core.Logic.{◌≢◌, ◌↔◌}
use mathlib.Core.Path.{◌≡◌, refl, sym, ap, ◌∙◌, subst}
use Prim.Native.Nat.{ℕ, ◌+◌, ◌≤◌, ◌<◌}
use native.Mathlib.Decide.{ℕ_discrete, dec_lt}
use native.Mathlib.Omega.{arith}
use lib.Dec.{T, eqb, eqb→eq}
use lib.ListN.{length, set, length-set}
use lib.Seq.{get_or-set_same, get_or-set_other}
use Rattle.pattern.specs.Choice.{NoChoice, Choice}
use Rattle.pattern.specs.Flat.{start_of}
use Rattle.pattern.specs.Pattern.{has, column, Entry, Cleared}
use Rattle.pattern.specs.Places.{at}
use Rattle.pattern.specs.Rising.{Rising}
use Rattle.pattern.specs.Series.{numbers}
use Rattle.pattern.specs.Turned.{row_of}
use Rattle.pattern.specs.Verdict.{Replacement, size, c_place, c_row, spiked_columns, Spike, cleared_columns, Taken}
use Rattle.pattern.proofs.Each.{length_each, each_at}
use Rattle.pattern.proofs.Numbers.{numbers_rise, numbers_are}
use Rattle.pattern.proofs.Once.{onto}
use Rattle.pattern.proofs.Pairing.{col_place}
use Rattle.pattern.proofs.Rises.{rising_same}
use Rattle.pattern.proofs.Tallies.{tally_less, tally_changed, row_total}
use Rattle.pattern.proofs.Tests.{eq-eqb, choose_same, choose_other, has_among, among_has}
use Rattle.pattern.proofs.Turning.{Columns, column_below}
use Rattle.pattern.proofs.Verdicts.{old_sound, spike_rows}

-- ---- A column exchanged

module _ (P : List (List ℕ)) (c : ℕ) (new : List ℕ) where
  pub new_column : c < length P → column (set P c new) c ≡ new
  new_column h = get_or-set_same P c new [] h

  pub old_column : (y : ℕ) → y ≢ c → column (set P c new) y ≡ column P y
  old_column y n = get_or-set_other P c y new [] n

  -- The total changes by what the column does.
  pub spiked_total : c < length P → start_of (set P c new) (length P) + length (column P c) ≡ start_of P (length P) + length new
  spiked_total h =
      tally_changed (λ y. length (column P y)) (λ y. length (column (set P c new) y)) (length P) c h (λ y u n. ap length (old_column y n))
      ∙ ap (λ (l : List ℕ). start_of P (length P) + length l) (new_column h)

-- It lists a pattern where the new rows rise.
pub spiked_columns_rise : {m c : ℕ} {P : List (List ℕ)} {new : List ℕ} → Columns m P → c < m → Rising m new → Columns m (set P c new)
spiked_columns_rise {m} {c} {P} {new} C h R = record { size = length-set P c new ∙ C.size; rise = λ y u. go y u (ℕ_discrete y c) }
  where
    go : (y : ℕ) → y < m → Dec (y ≡ c) → Rising m (column (set P c new) y)
    go y u (yes e) = rw e (rw (new_column P c new (omega (arith, C.size))) R)
    go y u (no n) = rw (old_column P c new y n) (C.rise y u)

-- ---- A row cleared

module _ (a : Replacement) where
  -- Row `s` stands in column `y` afterwards.
  abbrev pub stays : ℕ → ℕ → Bool
  stays y s = cond (eqb s (c_row a)) (eqb y a.replaced) (has (column (spiked_columns a) y) s)

  pub stays_own : (y s : ℕ) → s ≡ c_row a → stays y s ≡ eqb y a.replaced
  stays_own y s e = choose_same s (c_row a) (eqb y a.replaced) (has (column (spiked_columns a) y) s) e

  pub stays_other : (y s : ℕ) → s ≢ c_row a → stays y s ≡ has (column (spiked_columns a) y) s
  stays_other y s n = choose_other s (c_row a) (eqb y a.replaced) (has (column (spiked_columns a) y) s) n

  pub cleared_column : (y : ℕ) → y < size a → column (cleared_columns a) y ≡ numbers (stays y) (size a)
  cleared_column y h = each_at (λ y. numbers (stays y) (size a)) (size a) y [] h

  pub cleared_columns_rise : Columns (size a) (cleared_columns a)
  cleared_columns_rise =
      record {
        size = length_each (λ y. numbers (stays y) (size a)) (size a);
        rise = λ y h. rw (cleared_column y h) (numbers_rise (stays y) (size a));
      }

  pub cleared_entry : (s y : ℕ) → Entry (cleared_columns a) s y ↔ ((s < size a) × (y < size a) × T (stays y s))
  cleared_entry s y = (
    λ e.
        let h : y < size a = omega (arith, column_below (cleared_columns a) s y e, cleared_columns_rise.size) in
        let u = (numbers_are (stays y) (size a) s).0 (rw (cleared_column y h) at e) in
        (u.0, h, u.1),
    λ u. rw (cleared_column y u.1) ((numbers_are (stays y) (size a) s).1 (u.0, u.2)),
  )

module _ (a : Replacement) (t : Taken a) where
  pub c_row_below : c_row a < size a
  c_row_below = let s = old_sound a t in s.rows.below (c_place a) (col_place s a.replaced t.column_below).0

  -- The lists make the cleared pattern.
  pub cleared_is : Cleared (Spike a) (Entry (cleared_columns a)) (c_row a) a.replaced
  cleared_is =
      record {
        given = (cleared_entry a (c_row a) a.replaced).1
            (c_row_below, t.column_below, subst T (sym (stays_own a a.replaced (c_row a) refl)) (eq-eqb a.replaced a.replaced refl));
        alone = λ y e. eqb→eq y a.replaced (subst T (stays_own a y (c_row a) refl) ((cleared_entry a (c_row a) y).0 e).2);
        others = λ s y n. (
          λ e.
              let h : y < size a = omega (arith, column_below (spiked_columns a) s y e, length-set a.columns a.replaced a.new_rows) in
              (cleared_entry a s y).1 (spike_rows a t s y e, h, subst T (sym (stays_other a y s n)) e),
          λ e. subst T (stays_other a y s n) ((cleared_entry a s y).0 e).2,
        );
      }

  -- ---- There are no more entries, where there is a full choice: row r has one, and had one that some choice takes

  abbrev row_before : ℕ → List ℕ
  row_before s = row_of (spiked_columns a) s (size a)

  abbrev row_after : ℕ → List ℕ
  row_after s = row_of (cleared_columns a) s (size a)

  before_are : (s y : ℕ) → T (has (row_before s) y) ↔ ((y < size a) × Spike a s y)
  before_are s = numbers_are (λ y. has (column (spiked_columns a) y) s) (size a)

  after_are : (s y : ℕ) → T (has (row_after s) y) ↔ ((y < size a) × Entry (cleared_columns a) s y)
  after_are s = numbers_are (λ y. has (column (cleared_columns a) y) s) (size a)

  after_rises : (s : ℕ) → Rising (size a) (row_after s)
  after_rises s = numbers_rise (λ y. has (column (cleared_columns a) y) s) (size a)

  -- Every other row keeps its columns.
  row_kept : (s : ℕ) → s ≢ c_row a → row_after s ≡ row_before s
  row_kept s n =
      rising_same (row_after s) (row_before s) (after_rises s) (numbers_rise (λ y. has (column (spiked_columns a) y) s) (size a))
      (λ y e. let u = (after_are s y).0 e in (before_are s y).1 (u.0, (cleared_is.others s y n).1 u.1))
      (λ y e. let u = (before_are s y).0 e in (after_are s y).1 (u.0, (cleared_is.others s y n).0 u.1))

  -- Row r has one column at most.
  row_one : length (row_after (c_row a)) ≤ 1
  row_one = go (dec_lt 1 (length (row_after (c_row a))))
    where
      only : (i : ℕ) → i < length (row_after (c_row a)) → at (row_after (c_row a)) i ≡ a.replaced
      only i h = cleared_is.alone _ ((after_are (c_row a) _).0 (among_has (row_after (c_row a)) i h)).1

      go : Dec (1 < length (row_after (c_row a))) → length (row_after (c_row a)) ≤ 1
      go (yes h) = absurd (omega (arith, (after_rises (c_row a)).rises 0 h, only 0 (omega arith), only 1 h))
      go (no h) = omega arith

  -- A full choice takes an entry in row r.
  choice_row : (σ : ℕ → ℕ) → Choice (Spike a) (size a) σ → 0 < length (row_before (c_row a))
  choice_row σ k =
      let y = onto k.rows (c_row a) c_row_below in
      let e : Spike a (c_row a) y.0 = subst (λ (s : ℕ). Spike a s y.0) y.2 (k.chosen y.0 y.1) in
      omega (arith, (has_among (row_before (c_row a)) y.0 ((before_are (c_row a) y.0).1 (y.1, e))).1)

  pub cleared_few : Columns (size a) a.columns → ¬ NoChoice (Spike a) (size a)
      → start_of (cleared_columns a) (size a) ≤ start_of (spiked_columns a) (size a)
  cleared_few C some =
      omega (
        arith,
        row_total (cleared_columns_rise a) (size a) (omega arith),
        row_total (spiked_columns_rise C t.column_below t.new_rise) (size a) (omega arith),
        tally_less (λ s. length (row_after s)) (λ s. length (row_before s)) (size a) (λ s h. go s (ℕ_discrete s (c_row a)) some_before),
      )
    where
      some_before : Dec (0 < length (row_before (c_row a)))
      some_before = dec_lt 0 (length (row_before (c_row a)))

      go : (s : ℕ) → Dec (s ≡ c_row a) → Dec (0 < length (row_before (c_row a))) → length (row_after s) ≤ length (row_before s)
      go s (yes e) (yes h) = rw e (omega (arith, row_one))
      go s (yes e) (no h) = absurd (some (λ σ k. h (choice_row σ k)))
      go s (no n) d = omega (arith, ap length (row_kept s n))
