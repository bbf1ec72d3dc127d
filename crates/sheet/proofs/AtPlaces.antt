-- What stands at a place of a register in lent lists, as the writer comes to it: a row of a column, a column, a pair of the order. Rests on `pattern` and `listing`.
use mathlib.Core.List.{List}
use mathlib.Core.Path.{◌≡◌, ap, ◌∙◌}
use Prim.Native.Nat.{ℕ, ◌+◌, ◌≤◌, ◌<◌, min}
use native.Mathlib.Numerals.{add-one}
use native.Mathlib.Omega.{arith}
use lib.ListN.{length, get_or, take}
use Rattle.std.proofs.lemmas.List.{get_or-take, length-take-le}
use Rattle.pattern.specs.Order.{pairs}
use Rattle.pattern.specs.Pattern.{column}
use Rattle.pattern.specs.Places.{at}
use Rattle.pattern.specs.Rising.{Rising}
use Rattle.pattern.proofs.Each.{length_each}
use Rattle.pattern.proofs.Pairs.{pairs_length, pair_is}
use Rattle.listing.specs.Limits.{max_size}
use Rattle.listing.specs.Listing.{part, parts, Good}
use Rattle.listing.proofs.Listings.{good_columns, good_column}
use Rattle.listing.proofs.Rises.{rising_few}

-- ---- A row

-- Place `k` of rows that rise, where `least` is the least that the row can be.
pub record AtRow (rows : List ℕ) (k least : ℕ) : Type 0 where
  pub rises : Rising max_size rows
  pub fits : k < length rows → least ≤ at rows k

module _ {rows : List ℕ} {k least : ℕ} (r : AtRow rows k least) (h : k < length rows) where
  pub row_small : at rows k < max_size
  row_small = r.rises.below k h

  pub at_row_more : AtRow rows (k + 1) (at rows k + 1)
  at_row_more = record { rises = r.rises; fits = λ u. omega (arith, r.rises.rises k (omega arith), ap (at rows) (add-one k)) }

-- ---- A column

pub parts_length : (m : ℕ) (cs cr : List ℕ) → length (parts m cs cr) ≡ m
parts_length m cs cr = length_each (part cs cr) m

module _ {m : ℕ} {cs cr : List ℕ} (G : Good m cs cr) where
  pub column_rises : (c : ℕ) → c < m → Rising max_size (column (parts m cs cr) c)
  column_rises c h =
      let r = (good_columns G).rise c h in
      record { below = λ i u. omega (arith, r.below i u, G.small); rises = r.rises }

  -- What part c is.
  pub record ColumnSeen (c : ℕ) (rows : List ℕ) : Type 0 where
    pub is_column : rows ≡ column (parts m cs cr) c
    pub rises : Rising max_size rows
    pub few : length rows ≤ max_size

  pub column_seen : {rows : List ℕ} (c : ℕ) → c < m → rows ≡ part cs cr c → ColumnSeen c rows
  column_seen {rows} c h e = record { is_column = is; rises = up; few = rising_few up }
    where
      is : rows ≡ column (parts m cs cr) c
      is = good_column G c h e

      up : Rising max_size rows
      up = rw is (column_rises c h)

-- ---- A pair

-- Place `t` of an order of size `m` in two lists, and its row and its column.
pub record AtPair (m : ℕ) (or oc : List ℕ) (t row col : ℕ) : Type 0 where
  pub within : t < length (pairs m or oc)
  pub is : get_or (pairs m or oc) t (0, 0) ≡ (row, col)

module _ (m : ℕ) (or oc : List ℕ) (or_fits : m ≤ length or) (oc_fits : m ≤ length oc) where
  -- What a loop over the first `m` of both lists knows at a turn, and after the last.
  pub at_pair : {t row col : ℕ}
      → (t < length (take m or)) × (t < length (take m oc)) × ((d : ℕ) → row ≡ get_or (take m or) t d) × ((d : ℕ) → col ≡ get_or (take m oc) t d)
      → AtPair m or oc t row col
  at_pair {t} {row} {col} z =
      let h : t < m = omega (arith, z.0, length-take-le m or or_fits) in
      let first : row ≡ at or t = z.2 0 ∙ get_or-take m or t 0 h in
      let second : col ≡ at oc t = z.3 0 ∙ get_or-take m oc t 0 h in
      record { within = omega (arith, pairs_length m or oc); is = pair_is m or oc t h ∙ cc }

  pub past_pairs : {n : ℕ} → n ≡ min (length (take m or)) (length (take m oc)) → length (pairs m or oc) ≤ n
  past_pairs e = omega (arith, pairs_length m or oc, length-take-le m or or_fits, length-take-le m oc oc_fits)
