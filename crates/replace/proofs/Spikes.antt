-- What `store` makes of a listing is what a verdict wants: the spiked columns, or the cleared ones; and that there is room for
-- these. Rests on specs/ReplaceChecks.antt, `pattern`, `listing`, `register`, `store` and `judge`.
use mathlib.Core.Bool.{Bool, cond, ◌||◌}
use mathlib.Core.List.{List, []}
use mathlib.Core.Logic.{◌≢◌}
use mathlib.Core.Path.{◌≡◌, sym, ap, ap₂, ◌∙◌, subst}
use Prim.Native.Nat.{ℕ, ◌+◌, ◌≤◌, ◌<◌}
use native.Mathlib.Decide.{ℕ_discrete}
use native.Mathlib.Omega.{arith}
use lib.Dec.{T, eqb, eqb→eq}
use lib.ListN.{length, set, length-set}
use lib.Seq.{get_or-take}
use Rattle.pattern.specs.Choice.{NoChoice}
use Rattle.pattern.specs.Flat.{start_of}
use Rattle.pattern.specs.Pattern.{has, column}
use Rattle.pattern.specs.Places.{at, place}
use Rattle.pattern.specs.Series.{each, numbers}
use Rattle.pattern.specs.Verdict.{Replacement, size, c_place, c_row, spiked_columns, Spike, cleared_columns, Taken}
use Rattle.pattern.proofs.Clearing.{new_column, old_column, spiked_total, stays, stays_own, stays_other, cleared_few}
use Rattle.pattern.proofs.Each.{each_same, each_is}
use Rattle.pattern.proofs.Numbers.{numbers_rise, numbers_are, numbers_same}
use Rattle.pattern.proofs.Rises.{rising_below, rising_same}
use Rattle.pattern.proofs.Tests.{T_true, T_false, eq-eqb, choose_same, choose_other}
use Rattle.pattern.proofs.Turning.{Columns, row_below}
use Rattle.listing.proofs.Between.{between_length}
use Rattle.listing.proofs.Listings.{starts_rise, part_is, good_within, parts_start}
use Rattle.register.specs.Checks.{Fits}
use Rattle.register.specs.Lent.{columns}
use Rattle.register.proofs.Soundness.{columns_good}
use Rattle.store.specs.Store.{without, joined, exchanged}
use Rattle.store.proofs.Without.{without_has, has_without, without_none, without_rises}
use Rattle.judge.specs.Call.{Call, asked}
use Rattle.judge.specs.Judge.{Judgeable}
use Rattle.judge.proofs.Asked.{placed, call_place, call_columns, call_size, call_judged}
use Rattle.replace.specs.ReplaceChecks.{new_total, NewFits}

-- ---- The spiked columns: no row is struck out

-- Row `m` stands in no column.
exchanged_spiked : {m c : ℕ} {P : List (List ℕ)} (new : List ℕ) → Columns m P → c < m → exchanged m P c m new ≡ set P c new
exchanged_spiked {m} {c} {P} new C h =
    each_same (λ k. cond (eqb k c) new (without m (column P k))) (column (set P c new)) m (λ k u. go k (ℕ_discrete k c))
    ∙ ap (each (column (set P c new))) (sym (length-set P c new ∙ C.size))
    ∙ each_is (set P c new) []
  where
    go : (k : ℕ) → Dec (k ≡ c) → cond (eqb k c) new (without m (column P k)) ≡ column (set P c new) k
    go k (yes e) =
        choose_same k c new (without m (column P k)) e
        ∙ sym (ap (column (set P c new)) e ∙ new_column P c new (omega (arith, C.size)))
    go k (no n) =
        choose_other k c new (without m (column P k)) n
        ∙ without_none m (column P k) (λ t. omega (arith, row_below C m k t))
        ∙ sym (old_column P c new k n)

-- ---- The cleared columns: row r is struck out, and column c is given it

module _ {a : Replacement} (t : Taken a) (C : Columns (size a) a.columns) where
  -- Column c.
  cleared_new : (k : ℕ) → k ≡ a.replaced → joined (size a) (c_row a) a.new_rows ≡ numbers (stays a k) (size a)
  cleared_new k e = numbers_same (λ s. eqb s (c_row a) || has a.new_rows s) (stays a k) (size a) (λ s h. go s (ℕ_discrete s (c_row a)))
    where
      new : column (spiked_columns a) k ≡ a.new_rows
      new = ap (column (spiked_columns a)) e ∙ new_column a.columns a.replaced a.new_rows t.column_below

      go : (s : ℕ) → Dec (s ≡ c_row a) → eqb s (c_row a) || has a.new_rows s ≡ stays a k s
      go s (yes z) =
          ap (λ (b : Bool). b || has a.new_rows s) (T_true (eqb s (c_row a)) (eq-eqb s (c_row a) z))
          ∙ sym (stays_own a k s z ∙ T_true (eqb k a.replaced) (eq-eqb k a.replaced e))
      go s (no z) =
          ap (λ (b : Bool). b || has a.new_rows s) (T_false (eqb s (c_row a)) (λ u. z (eqb→eq s (c_row a) u)))
          ∙ sym (stays_other a k s z ∙ ap (λ (l : List ℕ). has l s) new)

  -- Another column.
  abbrev struck : ℕ → List ℕ
  struck k = without (c_row a) (column a.columns k)

  cleared_old : (k : ℕ) → k < size a → k ≢ a.replaced → struck k ≡ numbers (stays a k) (size a)
  cleared_old k h n =
      rising_same (struck k) (numbers (stays a k) (size a)) (without_rises (c_row a) (column a.columns k) (C.rise k h)) (numbers_rise (stays a k) (size a))
      (λ s u.
      let v = without_has (c_row a) (column a.columns k) s u in
      (numbers_are (stays a k) (size a) s).1 (rising_below (C.rise k h) s v.0, subst T (sym (same s v.1)) v.0))
      (λ s u. back s ((numbers_are (stays a k) (size a) s).0 u).1 (ℕ_discrete s (c_row a)))
    where
      same : (s : ℕ) → s ≢ c_row a → stays a k s ≡ has (column a.columns k) s
      same s z = stays_other a k s z ∙ ap (λ (l : List ℕ). has l s) (old_column a.columns a.replaced a.new_rows k n)

      back : (s : ℕ) → T (stays a k s) → Dec (s ≡ c_row a) → T (has (struck k) s)
      back s u (yes z) = absurd (n (eqb→eq k a.replaced (subst T (stays_own a k s z) u)))
      back s u (no z) = has_without (c_row a) (column a.columns k) s (subst T (same s z) u) z

  exchanged_cleared : exchanged (size a) a.columns a.replaced (c_row a) (joined (size a) (c_row a) a.new_rows) ≡ cleared_columns a
  exchanged_cleared = each_same after (λ k. numbers (stays a k) (size a)) (size a) (λ k h. go k h (ℕ_discrete k a.replaced))
    where
      after : ℕ → List ℕ
      after k = cond (eqb k a.replaced) (joined (size a) (c_row a) a.new_rows) (struck k)

      go : (k : ℕ) → k < size a → Dec (k ≡ a.replaced) → after k ≡ numbers (stays a k) (size a)
      go k h (yes e) = choose_same k a.replaced (joined (size a) (c_row a) a.new_rows) (struck k) e ∙ cleared_new k e
      go k h (no n) = choose_other k a.replaced (joined (size a) (c_row a) a.new_rows) (struck k) n ∙ cleared_old k h n

-- ---- Of a call

module _ {a : Call} (J : Judgeable a) where
  asked_columns : Columns (size (asked a)) (columns a.size a.lists)
  asked_columns = subst (λ (n : ℕ). Columns n (columns a.size a.lists)) (sym (call_size J)) (call_columns J)

  pub call_row : c_row (asked a) ≡ at a.lists.order_rows (place (at a.lists.order_cols) a.size a.column)
  call_row =
      let rows = a.lists.order_rows in
      get_or-take a.size rows (c_place (asked a)) 0 (placed J).0 ∙ ap (at rows) (call_place J)

  -- What `store` makes of its columns.
  pub call_spiked : exchanged a.size (columns a.size a.lists) a.column a.size a.new_rows ≡ spiked_columns (asked a)
  call_spiked = exchanged_spiked a.new_rows (call_columns J) J.column_below

  pub call_cleared : {r : ℕ} {rows : List ℕ} → r ≡ c_row (asked a) → rows ≡ joined a.size r a.new_rows
      → exchanged a.size (columns a.size a.lists) a.column r rows ≡ cleared_columns (asked a)
  call_cleared {r} {rows} e er =
      ap (exchanged a.size (columns a.size a.lists) a.column r) er
      ∙ ap₂ (λ (n x : ℕ). exchanged n (columns a.size a.lists) a.column x (joined n x a.new_rows)) (sym (call_size J)) e
      ∙ exchanged_cleared (call_judged J) asked_columns

  -- The total that is checked is that of the spiked columns.
  pub spiked_total_is : start_of (spiked_columns (asked a)) a.size ≡ new_total a.size a.lists.col_starts a.column (length a.new_rows)
  spiked_total_is =
      let starts = a.lists.col_starts in
      let entries = a.lists.col_rows in
      let G = columns_good J.sound in
      let W = good_within G a.column J.column_below in
      omega (
        arith,
        rw (call_size J) at (spiked_total (columns a.size a.lists) a.column a.new_rows (omega (arith, call_size J, J.column_below))),
        parts_start a.size starts entries G.room G.formed.starts_right a.size (omega arith),
        ap length (part_is a.size starts entries a.column J.column_below),
        between_length (at starts a.column) (at starts (a.column + 1)) entries W.in_list,
        W.no_fall,
        starts_rise G.formed.starts_right (a.column + 1) a.size (omega (arith, J.column_below)) (omega arith),
      )

  module _ (F : NewFits a) where
    pub spiked_fits : Fits (start_of (spiked_columns (asked a)) a.size) a.lists.col_rows a.lists.row_cols
    spiked_fits = rw spiked_total_is F

    -- Where there is a full choice, the cleared columns have no more entries.
    pub cleared_fits : ¬ NoChoice (Spike (asked a)) (size (asked a))
        → Fits (start_of (cleared_columns (asked a)) a.size) a.lists.col_rows a.lists.row_cols
    cleared_fits some =
        record {
          few = omega (arith, less, spiked_fits.few);
          in_columns = omega (arith, less, spiked_fits.in_columns);
          in_rows = omega (arith, less, spiked_fits.in_rows);
        }
      where
        less : start_of (cleared_columns (asked a)) a.size ≤ start_of (spiked_columns (asked a)) a.size
        less = subst (λ (n : ℕ). start_of (cleared_columns (asked a)) n ≤ start_of (spiked_columns (asked a)) n) (call_size J)
            (cleared_few (asked a) (call_judged J) asked_columns some)
