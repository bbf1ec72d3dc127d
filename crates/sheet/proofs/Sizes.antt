-- How many the parts of a sheet have, at most or in sum. Rests on AtPlaces.antt, Numbers.antt, `listing`, `text` and `register`.
use mathlib.Core.List.{List, [], ◌∷◌, ◌++◌}
use mathlib.Core.Path.{◌≡◌, ap, ◌∙◌}
use Prim.Native.Nat.{ℕ, suc, ◌+◌, ◌-◌, ◌*◌, ◌≤◌, ◌<◌}
use native.Mathlib.Omega.{arith}
use lib.ListN.{length, get_or, length-append}
use Rattle.pattern.specs.Flat.{flat, start_of}
use Rattle.pattern.specs.Pattern.{column}
use Rattle.pattern.specs.Places.{at}
use Rattle.pattern.specs.Rising.{Rising}
use Rattle.pattern.specs.Order.{pairs}
use Rattle.pattern.proofs.Tallies.{flat_length}
use Rattle.pattern.proofs.Pairs.{pairs_length, pair_is}
use Rattle.listing.specs.Limits.{max_size, max_total}
use Rattle.listing.specs.Listing.{parts, Good}
use Rattle.listing.proofs.Listings.{parts_start}
use Rattle.listing.proofs.Rises.{rising_few}
use Rattle.text.specs.Series.{series}
use Rattle.text.proofs.SeriesLaws.{series_few}
use Rattle.register.specs.Lent.{Lists, SoundLists}
use Rattle.register.proofs.Soundness.{columns_good}
use Rattle.sheet.specs.Number.{groups}
use Rattle.sheet.specs.Sheet.{Record, record_in, record_of, past, grown, counted, row_bytes, rows_bytes, column_bytes, columns_bytes, pair_bytes, order_bytes, sheet}
use Rattle.sheet.proofs.AtPlaces.{parts_length, column_rises}
use Rattle.sheet.proofs.Numbers.{groups_few, groups_short}

-- ---- The columns

pub rows_few : {rows : List ℕ} → Rising max_size rows → length (rows_bytes rows) ≤ length rows * 2
rows_few {rows} R = series_few row_bytes past 2 rows 0 (λ k s h. groups_short (at rows k - s) (omega (arith, R.below k h))) 0

-- Two bytes for each count and each entry.
columns_sum : (P : List (List ℕ)) → ((c : ℕ) → c < length P → Rising max_size (column P c)) → (s : ℕ)
    → length (series column_bytes grown s P) ≤ (length P + length (flat P)) * 2
unfolding series
columns_sum [] R s = omega arith
columns_sum (x ∷ P) R s =
    let r = R 0 (omega arith) in
    omega (
      arith,
      length-append (column_bytes s x) (series column_bytes grown (grown s x) P),
      length-append (groups (length x)) (rows_bytes x),
      length-append x (flat P),
      groups_short (length x) (omega (arith, rising_few r)),
      rows_few r,
      columns_sum P (λ c h. R (suc c) (omega arith)) (grown s x),
    )

module _ {m : ℕ} {cs cr : List ℕ} (G : Good m cs cr) where
  pub entries_few : length (flat (parts m cs cr)) ≤ max_total
  entries_few =
      let P = parts m cs cr in
      let e = flat_length P ∙ ap (start_of P) (parts_length m cs cr) ∙ parts_start m cs cr G.room G.formed.starts_right m (omega arith) in
      omega (arith, e, G.formed.starts_right.total)

  pub columns_few : length (columns_bytes (parts m cs cr)) ≤ 26000
  columns_few =
      omega
      (arith, columns_sum (parts m cs cr) (λ c h. column_rises G c (omega (arith, parts_length m cs cr))) 0, parts_length m cs cr, entries_few, G.small)

-- ---- The order

module _ (m : ℕ) (or oc : List ℕ) where
  -- Where no number has more than `b` groups.
  order_sum : (b : ℕ) → ((t : ℕ) → t < m → (length (groups (at or t)) ≤ b) × (length (groups (at oc t)) ≤ b))
      → length (order_bytes (pairs m or oc)) ≤ m * (b + b)
  order_sum b few = rw (pairs_length m or oc) at (series_few pair_bytes counted (b + b) (pairs m or oc) (0, 0) both 0)
    where
      both : (t s : ℕ) → t < length (pairs m or oc) → length (pair_bytes s (get_or (pairs m or oc) t (0, 0))) ≤ b + b
      both t s u =
          let h : t < m = omega (arith, pairs_length m or oc) in
          rw (pair_is m or oc t h) (omega (arith, length-append (groups (at or t)) (groups (at oc t)), (few t h).0, (few t h).1))

  pub order_few : m ≤ max_size → length (order_bytes (pairs m or oc)) ≤ 6000
  order_few h = omega (arith, order_sum 3 (λ t u. (groups_few (at or t), groups_few (at oc t))))

  -- Where every number is below the size.
  order_short : m ≤ max_size → ((t : ℕ) → t < m → at or t < m) → ((t : ℕ) → t < m → at oc t < m) → length (order_bytes (pairs m or oc)) ≤ 4000
  order_short h f g =
      omega (arith, order_sum 2 (λ t u. (groups_short (at or t) (omega (arith, f t u)), groups_short (at oc t) (omega (arith, g t u)))))

-- ---- The whole

pub sheet_length : (x : Record) → length (sheet x) ≡ length (groups x.size) + length (columns_bytes x.columns) + length (order_bytes x.order)
sheet_length x =
    omega
    (arith, length-append (groups x.size) (columns_bytes x.columns ++ order_bytes x.order), length-append (columns_bytes x.columns) (order_bytes x.order))

-- No sheet is longer, whatever its order says.
pub sheet_few : {m : ℕ} {cs cr : List ℕ} (G : Good m cs cr) (or oc : List ℕ) → length (sheet (record_in m cs cr or oc)) ≤ 32003
sheet_few {m} {cs} {cr} G or oc = omega (arith, sheet_length (record_in m cs cr or oc), groups_few m, columns_few G, order_few m or oc G.small)

-- No sheet of a sound register is longer.
pub sheet_longest : {m : ℕ} {l : Lists} → SoundLists m l → length (sheet (record_of m l)) ≤ 30002
sheet_longest {m} {l} s =
    omega (
      arith,
      sheet_length (record_of m l),
      groups_short m (omega (arith, s.sized.1)),
      columns_few (columns_good s),
      order_short m l.order_rows l.order_cols s.sized.1 s.order.rows.below s.order.cols.below,
    )
