-- The sheet of a record whose numbers are in range is read as that record. Rests on NumberBack.antt, SeriesBack.antt and
-- Layouts.antt.
use mathlib.Core.Bool.{Bool, true}
use mathlib.Core.List.{List, [], ◌∷◌, ◌++◌, append_assoc, append-nil}
use mathlib.Core.Path.{◌≡◌, refl, sym, ap, ◌∙◌}
use Prim.Native.Nat.{ℕ, suc, ◌+◌, ◌-◌, ◌≤◌, ◌<◌}
use native.Mathlib.Omega.{arith}
use lib.Dec.{ltb}
use lib.ListN.{length, drop, get_or, length-append}
use borrow.Author.Tests.{lt-ltb, le-leb}
use Rattle.pattern.specs.Flat.{flat}
use Rattle.pattern.specs.Places.{at}
use Rattle.pattern.specs.Rising.{Rising}
use Rattle.pattern.proofs.Rises.{rising_tail}
use Rattle.pattern.proofs.Turning.{Columns}
use Rattle.listing.specs.Limits.{Sized, max_size, max_total}
use Rattle.listing.proofs.Rises.{rising_few}
use Rattle.sheet.specs.Number.{max_number, groups, got}
use Rattle.sheet.specs.Reading.{onward, number_that, many, size_test, count_test, size_at, row_at, rows_at, column_at, pair_at, record_read}
use Rattle.sheet.specs.Sheet.{Record, firsts, seconds, total, past, grown, counted, row_bytes, rows_bytes, column_bytes, columns_bytes, pair_bytes, order_bytes, sheet}
use Rattle.sheet.proofs.Layouts.{laid_out_read}
use Rattle.sheet.proofs.NumberBack.{number_written}
use Rattle.sheet.proofs.Readings.{thing_same}
use Rattle.sheet.proofs.SeriesBack.{behind, FitAll, series_written}

-- The numbers of a record are in range.
pub record Well (x : Record) : Type 0 where
  pub sized : Sized x.size
  pub columns : Columns x.size x.columns
  pub few : total x ≤ max_total
  pub places : length x.order ≡ x.size
  pub rows_below : (t : ℕ) → t < x.size → at (firsts x.order) t < x.size
  pub cols_below : (t : ℕ) → t < x.size → at (seconds x.order) t < x.size

module _ (bytes : List ℕ) where
  -- A number that passes its test is read back.
  number_back : (test : ℕ → Bool) (reply p v : ℕ) (l : List ℕ) → v ≤ max_number → test v ≡ true → drop p bytes ≡ groups v ++ l
      → number_that bytes test reply p ≡ got v (p + length (groups v))
  unfolding number_that onward
  number_back test reply p v l few t e = rw (number_written bytes p v l few e) (rw t)

  size_back : (m : ℕ) (l : List ℕ) → Sized m → drop 0 bytes ≡ groups m ++ l → size_at bytes 0 ≡ got m (0 + length (groups m))
  size_back m l s e = number_back size_test 1 0 m l (omega (arith, s.1)) (rw (lt-ltb 0 m s.0, le-leb m max_size s.1)) e

  module _ {m : ℕ} (small : m ≤ max_size) where
    -- ---- A column

    row_back : (least p r : ℕ) (l : List ℕ) → (least ≤ r) × (r < m) → drop p bytes ≡ row_bytes least r ++ l
        → row_at bytes m least p ≡ got r (p + length (row_bytes least r))
    unfolding row_at onward
    row_back least p r l f e =
        let z : least + (r - least) ≡ r = omega (arith, f.0) in
        rw (number_back (λ gap. ltb (least + gap) m) 11 p (r - least) l (omega (arith, f.1)) (rw (lt-ltb (least + (r - least)) m (omega (arith, f.1, z)))) e)
        (ap (λ (r' : ℕ). got r' (p + length (row_bytes least r))) z)

    rows_fit : (least : ℕ) (l : List ℕ) → Rising m l → (0 < length l → least ≤ at l 0)
        → FitAll bytes (row_at bytes m) row_bytes past (λ least r. (least ≤ r) × (r < m)) least l
    rows_fit least [] R h = tt
    rows_fit least (r ∷ l) R h = ((h (omega arith), R.below 0 (omega arith)), rows_fit (r + 1) l (rising_tail R) (λ u. omega (arith, R.rises 0 (omega arith))))

    rows_back : (p : ℕ) (rows l : List ℕ) → Rising m rows → drop p bytes ≡ rows_bytes rows ++ l
        → rows_at bytes m (length rows) p ≡ got rows (p + length (rows_bytes rows))
    rows_back p rows l R = series_written bytes (row_at bytes m) row_bytes past (λ least r. (least ≤ r) × (r < m)) row_back 0 p rows l (rows_fit 0 rows R (λ u. omega arith))

    column_back : (entries p : ℕ) (rows l : List ℕ) → Rising m rows × (entries + length rows ≤ max_total) → drop p bytes ≡ column_bytes entries rows ++ l
        → column_at bytes m entries p ≡ got rows (p + length (column_bytes entries rows))
    unfolding column_at onward
    column_back entries p rows l f e =
        let n = length rows in
        let few = rising_few f.0 in
        let here = e ∙ append_assoc (groups n) (rows_bytes rows) l in
        let q = p + length (groups n) in
        let end : q + length (rows_bytes rows) ≡ p + length (column_bytes entries rows) = omega (arith, length-append (groups n) (rows_bytes rows)) in
        rw (number_back (count_test m entries) 11 p n (rows_bytes rows ++ l) (omega (arith, few)) (rw (le-leb n m few, le-leb (entries + n) max_total f.1)) here)
        (rows_back q rows l f.0 (behind bytes p (groups n) (rows_bytes rows ++ l) here) ∙ ap (got rows) end)

    columns_fit : (entries : ℕ) (P : List (List ℕ)) → ((c : ℕ) → c < length P → Rising m (get_or P c [])) → entries + length (flat P) ≤ max_total
        → FitAll bytes (column_at bytes m) column_bytes grown (λ entries rows. Rising m rows × (entries + length rows ≤ max_total)) entries P
    columns_fit entries [] R h = tt
    columns_fit entries (l ∷ P) R h = (
      (R 0 (omega arith), omega (arith, length-append l (flat P))),
      columns_fit (entries + length l) P (λ c u. R (suc c) (omega arith)) (omega (arith, length-append l (flat P))),
    )

    -- ---- The order

    pair_back : (t p : ℕ) (x : ℕ × ℕ) (l : List ℕ) → (x.0 < m) × (x.1 < m) → drop p bytes ≡ pair_bytes t x ++ l
        → pair_at bytes m t p ≡ got x (p + length (pair_bytes t x))
    unfolding pair_at onward
    pair_back t p x l f e =
        let here = e ∙ append_assoc (groups x.0) (groups x.1) l in
        let q = p + length (groups x.0) in
        let end : q + length (groups x.1) ≡ p + length (pair_bytes t x) = omega (arith, length-append (groups x.0) (groups x.1)) in
        rw (number_back (λ v. ltb v m) 11 p x.0 (groups x.1 ++ l) (omega (arith, f.0)) (lt-ltb x.0 m f.0) here)
        (rw (number_back (λ v. ltb v m) 11 q x.1 l (omega (arith, f.1)) (lt-ltb x.1 m f.1) (behind bytes p (groups x.0) (groups x.1 ++ l) here))
        (ap (got x) end))

    pairs_fit : (t : ℕ) (o : List (ℕ × ℕ)) → ((i : ℕ) → i < length o → at (firsts o) i < m) → ((i : ℕ) → i < length o → at (seconds o) i < m)
        → FitAll bytes (pair_at bytes m) pair_bytes counted (λ t x. (x.0 < m) × (x.1 < m)) t o
    pairs_fit t [] f g = tt
    pairs_fit t (x ∷ o) f g = ((f 0 (omega arith), g 0 (omega arith)), pairs_fit (t + 1) o (λ i h. f (suc i) (omega arith)) (λ i h. g (suc i) (omega arith)))

-- ---- The whole

module _ (x : Record) (w : Well x) where
  abbrev m : ℕ
  m = x.size

  abbrev C : List ℕ
  C = columns_bytes x.columns

  abbrev O : List ℕ
  O = order_bytes x.order

  abbrev p : ℕ
  p = 0 + length (groups m)

  abbrev q : ℕ
  q = p + length C

  from_columns : drop p (sheet x) ≡ C ++ O
  from_columns = behind (sheet x) 0 (groups m) (C ++ O) refl

  from_order : drop q (sheet x) ≡ O ++ []
  from_order = behind (sheet x) p C O from_columns ∙ sym (append-nil O)

  ends : q + length O ≡ length (sheet x)
  ends = omega (arith, length-append (groups m) (C ++ O), length-append C O)

  columns_read : many (column_at (sheet x) m) grown (length x.columns) 0 p ≡ got x.columns q
  columns_read =
      series_written (sheet x) (column_at (sheet x) m) column_bytes grown _ (column_back (sheet x) w.sized.1) 0 p x.columns O
      (columns_fit (sheet x) w.sized.1 0 x.columns (λ c h. w.columns.rise c (omega (arith, w.columns.size))) (omega (arith, w.few))) from_columns

  order_read : many (pair_at (sheet x) m) counted (length x.order) 0 q ≡ got x.order (q + length O)
  order_read =
      series_written (sheet x) (pair_at (sheet x) m) pair_bytes counted _ (pair_back (sheet x) w.sized.1) 0 q x.order []
      (pairs_fit (sheet x) w.sized.1 0 x.order (λ i h. w.rows_below i (omega (arith, w.places))) (λ i h. w.cols_below i (omega (arith, w.places)))) from_order

  pub sheet_written : record_read (sheet x) ≡ got x (length (sheet x))
  sheet_written =
      laid_out_read (sheet x) {columns = p} {order = q}
      (record {
        size_read = size_back (sheet x) m (C ++ O) w.sized refl;
        columns_read = ap (λ (n : ℕ). many (column_at (sheet x) m) grown n 0 p) (sym w.columns.size) ∙ columns_read;
        order_read = ap (λ (n : ℕ). many (pair_at (sheet x) m) counted n 0 q) (sym w.places) ∙ order_read ∙ ap (got x.order) ends;
      })

-- No two records have one sheet.
pub sheet_apart : (x y : Record) → Well x → Well y → sheet x ≡ sheet y → x ≡ y
sheet_apart x y w v e = thing_same (sym (sheet_written x w) ∙ ap record_read e ∙ sheet_written y v)
