-- A row, a pair or a column that a pass reads again: it is the one that was read, and what is left is the rest.
-- Rests on Lefts.antt and Wider.antt.
use mathlib.Core.List.{List, []}
use mathlib.Core.Path.{◌≡◌, sym, ap, ◌∙◌}
use Prim.Native.Nat.{ℕ, ◌+◌, ◌≤◌, ◌<◌}
use native.Mathlib.Omega.{arith}
use lib.ListN.{length, get_or, get_or-map}
use Rattle.pattern.specs.Pattern.{column}
use Rattle.pattern.specs.Places.{at}
use Rattle.listing.specs.Limits.{max_size, max_total}
use Rattle.sheet.specs.Number.{Read, got, number}
use Rattle.sheet.specs.Passes.{thing, Got, Short}
use Rattle.sheet.specs.Reading.{row_at, rows_at, column_at, pair_at}
use Rattle.sheet.specs.Sheet.{firsts, seconds, past, grown, counted}
use Rattle.sheet.proofs.Onward.{pair_any}
use Rattle.sheet.proofs.Lefts.{got_is, thing_is, Left, Next, left_next}
use Rattle.sheet.proofs.Readings.{thing_same, next_same, RowGot, row_got, count_got, ColumnGot, column_got, member_got, pair_got}
use Rattle.sheet.proofs.Wider.{short, rows_wider, pair_wider}

-- What is read is what was read.
module _ {A : Type 0} {r : Read A} {x y : A} {n k : ℕ} (f : r ≡ got x n) (g : r ≡ got y k) where
  same_thing : y ≡ x
  same_thing = thing_same (sym g ∙ f)

  same_next : k ≡ n
  same_next = next_same (sym g ∙ f)

-- ---- A row

-- What is left of `n` rows `R`.
abbrev pub RowsLeft : (bytes : List ℕ) (n place : ℕ) (R : List ℕ) (j least p : ℕ) → Type 0
RowsLeft bytes = Left (row_at bytes max_size) past

-- The row `v` has been read.
pub record RowMet (bytes : List ℕ) (n place : ℕ) (R : List ℕ) (j v q : ℕ) : Type 0 where
  pub is : v ≡ at R j
  pub below : v < max_size
  pub left : RowsLeft bytes n place R (j + 1) (v + 1) q

module _ (bytes : List ℕ) {n place : ℕ} {R : List ℕ} {j least p : ℕ} (l : RowsLeft bytes n place R j least p) (h : j < n) where
  row_next : Next (row_at bytes max_size) past n place R 0 j least p
  row_next = left_next l 0 h

  row_read : RowGot bytes max_size least p (at R j) row_next.middle
  row_read = row_got bytes max_size least p row_next.read

  pub row_known : Short bytes p
  row_known = short bytes p row_read.gap_got (omega (arith, row_read.is, row_read.below))

  pub row_met : {gap q : ℕ} → number bytes p ≡ got gap q → RowMet bytes n place R j (least + gap) q
  row_met {gap} {q} k =
      let is : least + gap ≡ at R j = omega (arith, row_read.is, same_thing row_read.gap_got k) in
      record { is = is; below = omega (arith, row_read.below); left = rw (is, same_next row_read.gap_got k) row_next.left }

-- ---- A pair

-- What is left of the pairs `o` of an order of size `m`.
abbrev pub OrderLeft : (bytes : List ℕ) (m place : ℕ) (o : List (ℕ × ℕ)) (t p : ℕ) → Type 0
OrderLeft bytes m place o t = Left (pair_at bytes m) counted m place o t t

-- The row `v` and the column `w` of the next place have been read.
pub record PairMet (bytes : List ℕ) (m place : ℕ) (o : List (ℕ × ℕ)) (t v w q : ℕ) : Type 0 where
  pub row_is : v ≡ at (firsts o) t
  pub row_below : v < m
  pub column_is : w ≡ at (seconds o) t
  pub column_below : w < m
  pub left : OrderLeft bytes m place o (t + 1) q

module _ (bytes : List ℕ) (m : ℕ) (small : m ≤ max_size) {place : ℕ} {o : List (ℕ × ℕ)} {t p : ℕ} (l : OrderLeft bytes m place o t p) (h : t < m) where
  pair_next : Next (pair_at bytes m) counted m place o (0, 0) t t p
  pair_next = left_next l (0, 0) h

  pair_read : pair_at bytes m 0 p ≡ got (get_or o t (0, 0)) pair_next.middle
  pair_read = pair_any bytes m 0 p t ∙ pair_next.read

  pair_wide : pair_at bytes max_size 0 p ≡ got (get_or o t (0, 0)) pair_next.middle
  pair_wide = pair_wider bytes m max_size small 0 p pair_read

  pub pair_known : Got {A = ℕ × ℕ} (0, 0) (pair_at bytes max_size 0 p)
  pair_known = got_is (0, 0) pair_wide

  pub pair_met : (v w : ℕ) {q : ℕ} → pair_at bytes max_size 0 p ≡ got (v, w) q → PairMet bytes m place o t v w q
  pair_met v w e =
      let g = pair_got bytes m 0 p (pair_read ∙ sym pair_wide ∙ e) in
      let is = same_thing pair_wide e in
      record {
        row_is = ap (λ (x : ℕ × ℕ). x.0) is ∙ sym (get_or-map (λ (x : ℕ × ℕ). x.0) o t (0, 0));
        row_below = (member_got bytes m p g.row_read).1;
        column_is = ap (λ (x : ℕ × ℕ). x.1) is ∙ sym (get_or-map (λ (x : ℕ × ℕ). x.1) o t (0, 0));
        column_below = (member_got bytes m g.middle g.column_read).1;
        left = rw (same_next pair_wide e) pair_next.left;
      }

-- ---- A column

-- What is left of `m` columns `P`.
abbrev pub ColumnsLeft : (bytes : List ℕ) (m place : ℕ) (P : List (List ℕ)) (c entries p : ℕ) → Type 0
ColumnsLeft bytes m = Left (column_at bytes m) grown m

-- The count `n` of the next column has been read, and its rows follow at `q`.
pub record CountMet (bytes : List ℕ) (m place : ℕ) (P : List (List ℕ)) (c entries n q : ℕ) : Type 0 where
  pub is : n ≡ length (column P c)
  pub few : entries + n ≤ max_total
  pub rows_known : Got [] (rows_at bytes max_size n q)
  pub rows_are : thing [] (rows_at bytes max_size n q) ≡ column P c
  pub left : {q' : ℕ} → rows_at bytes max_size n q ≡ got (thing [] (rows_at bytes max_size n q)) q' → ColumnsLeft bytes m place P (c + 1) (entries + n) q'

module _ (bytes : List ℕ) (m : ℕ) (small : m ≤ max_size) {place : ℕ} {P : List (List ℕ)} {c entries p : ℕ}
    (l : ColumnsLeft bytes m place P c entries p) (h : c < m) where
  column_next : Next (column_at bytes m) grown m place P [] c entries p
  column_next = left_next l [] h

  next_column : ColumnGot bytes m entries p (column P c) column_next.middle
  next_column = column_got bytes m entries p column_next.read

  count_read : (number bytes p ≡ got (length (column P c)) next_column.middle) × (length (column P c) ≤ m) × (entries + length (column P c) ≤ max_total)
  count_read = count_got bytes m entries p next_column.count_read

  pub count_known : Short bytes p
  count_known = short bytes p count_read.0 (omega (arith, count_read.1))

  pub count_met : {n q : ℕ} → number bytes p ≡ got n q → CountMet bytes m place P c entries n q
  count_met {n} {q} k =
      record {
        is = many;
        few = omega (arith, many, count_read.2);
        rows_known = got_is [] rows_read;
        rows_are = thing_is [] rows_read;
        left = λ f. rw (many, same_next rows_read f) column_next.left;
      }
    where
      many : n ≡ length (column P c)
      many = same_thing count_read.0 k

      rows_read : rows_at bytes max_size n q ≡ got (column P c) column_next.middle
      rows_read = rw (many, same_next count_read.0 k) (rows_wider bytes m max_size small (length (column P c)) 0 next_column.middle next_column.rows_read)
