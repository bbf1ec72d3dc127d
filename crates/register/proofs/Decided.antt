-- The checks of a call as tests that compute, and what each says. Rests on Deciding.antt, `pattern` and `listing`.
use mathlib.Core.Bool.{Bool, not, ◌&&◌, ◌||◌}
use mathlib.Core.List.{List}
use mathlib.Core.Path.{sym, subst}
use Prim.Native.Nat.{ℕ, ◌+◌}
use lib.Dec.{eqb, leb, ltb}
use lib.ListN.{length}
use Rattle.pattern.specs.Order.{Sound}
use Rattle.pattern.specs.Pattern.{has, column, Entry}
use Rattle.pattern.specs.Places.{at, Once}
use Rattle.pattern.specs.Rising.{Rising}
use Rattle.pattern.specs.Turned.{turned, SameEntries}
use Rattle.pattern.proofs.Rises.{rising, test_rising, rising_test}
use Rattle.pattern.proofs.Turning.{turned_same, turned_only}
use Rattle.listing.specs.Limits.{Sized, max_size, max_total}
use Rattle.listing.specs.Listing.{part, Room, Starts, Listing}
use Rattle.listing.specs.Says.{Says}
use Rattle.listing.proofs.Answers.{says_as}
use Rattle.listing.proofs.Listings.{parts_columns}
use Rattle.register.specs.Checks.{Fits}
use Rattle.register.specs.Lent.{Lists, columns, rows, Long, Formed, ListingsAgree}
use Rattle.register.proofs.Deciding.{says_by, says_itself, says_equal, says_most, says_below, says_both, says_if, all, says_all, says_pairs, alike, says_alike}

-- ---- The checks of a register

unfoldable pub sized : ℕ → Bool
sized m = leb 1 m && leb m max_size

pub says_sized : (m : ℕ) → Says (sized m) (Sized m)
unfolding sized
says_sized m = says_both (leb 1 m) (leb m max_size) (says_most 1 m) (says_most m max_size)

unfoldable pub roomy : (m : ℕ) (starts entries : List ℕ) → Bool
roomy m starts entries = ltb m (length starts) && leb (at starts m) (length entries)

says_roomy : (m : ℕ) (starts entries : List ℕ) → Says (roomy m starts entries) (Room m starts entries)
unfolding roomy
says_roomy m starts entries =
    says_as (λ u. record { starts_long = u.0; entries_long = u.1 }) (λ r. (r.starts_long, r.entries_long))
    (says_both (ltb m (length starts)) (leb (at starts m) (length entries)) (says_below m (length starts)) (says_most (at starts m) (length entries)))

-- Starts that are right, and parts that rise.
unfoldable pub started : (m : ℕ) (starts : List ℕ) → Bool
started m starts = eqb (at starts 0) 0 && (all (λ k. leb (at starts k) (at starts (k + 1))) m && leb (at starts m) max_total)

says_started : (m : ℕ) (starts : List ℕ) → Says (started m starts) (Starts m starts)
unfolding started
says_started m starts =
    says_as (λ u. record { first = u.0; never_fall = u.1.0; total = u.1.1 }) (λ s. (s.first, (s.never_fall, s.total)))
    (says_both (eqb (at starts 0) 0) _ (says_equal (at starts 0) 0)
    (says_both (all (λ k. leb (at starts k) (at starts (k + 1))) m) (leb (at starts m) max_total) (says_all _ m (λ k. says_most (at starts k) (at starts (k + 1)))) (says_most (at starts m) max_total)))

unfoldable pub listed : (m : ℕ) (starts entries : List ℕ) → Bool
listed m starts entries = started m starts && all (λ k. rising m (part starts entries k)) m

pub says_rising : (m : ℕ) (l : List ℕ) → Says (rising m l) (Rising m l)
says_rising m l = says_by (rising m l) (test_rising m l) (rising_test m l)

says_listed : (m : ℕ) (starts entries : List ℕ) → Says (listed m starts entries) (Listing m starts entries)
unfolding listed
says_listed m starts entries =
    says_as (λ u. record { starts_right = u.0; rise = u.1 }) (λ s. (s.starts_right, s.rise))
    (says_both (started m starts) (all (λ k. rising m (part starts entries k)) m) (says_started m starts) (says_all _ m (λ k. says_rising m (part starts entries k))))

-- Each number below `m` once.
unfoldable pub once_each : (ℕ → ℕ) → ℕ → Bool
once_each f m = all (λ i. ltb (f i) m) m && all (λ i. all (λ j. not (eqb (f i) (f j)) || eqb i j) m) m

says_once : (f : ℕ → ℕ) (m : ℕ) → Says (once_each f m) (Once f m m)
unfolding once_each
says_once f m =
    says_as (λ u. record { below = u.0; once = u.1 }) (λ o. (o.below, o.once))
    (says_both (all (λ i. ltb (f i) m) m) _ (says_all _ m (λ i. says_below (f i) m))
    (says_pairs (λ i j. not (eqb (f i) (f j)) || eqb i j) m (λ i j. says_if (eqb (f i) (f j)) (eqb i j) (says_equal (f i) (f j)) (says_equal i j))))

-- A sound order.
unfoldable pub ordered : List (List ℕ) → ℕ → (ℕ → ℕ) → (ℕ → ℕ) → Bool
ordered P m row col =
    once_each row m && (once_each col m && (all (λ t. has (column P (col t)) (row t)) m && all (λ s. all (λ t. not (has (column P (col t)) (row s)) || leb s t) m) m))

pub says_ordered : (P : List (List ℕ)) (m : ℕ) (row col : ℕ → ℕ) → Says (ordered P m row col) (Sound (Entry P) m row col)
unfolding ordered
says_ordered P m row col =
    says_as (λ u. record { rows = u.0; cols = u.1.0; paired = u.1.1.0; upper = u.1.1.1 }) (λ s. (s.rows, (s.cols, (s.paired, s.upper))))
    (says_both (once_each row m) _ (says_once row m)
    (says_both (once_each col m) _ (says_once col m)
    (says_both (all (λ t. has (column P (col t)) (row t)) m) _ (says_all _ m (λ t. says_itself (has (column P (col t)) (row t))))
    (says_pairs (λ s t. not (has (column P (col t)) (row s)) || leb s t) m (λ s t. says_if (has (column P (col t)) (row s)) (leb s t) (says_itself (has (column P (col t)) (row s))) (says_most s t))))))

module _ (m : ℕ) (l : Lists) where
  unfoldable pub long : Bool
  long = roomy m l.col_starts l.col_rows && (roomy m l.row_starts l.row_cols && (leb m (length l.order_rows) && leb m (length l.order_cols)))

  pub says_long : Says long (Long m l)
  unfolding long
  says_long =
      says_as (λ u. record { columns_fit = u.0; rows_fit = u.1.0; order_rows_fit = u.1.1.0; order_cols_fit = u.1.1.1 })
      (λ s. (s.columns_fit, (s.rows_fit, (s.order_rows_fit, s.order_cols_fit))))
      (says_both (roomy m l.col_starts l.col_rows) _ (says_roomy m l.col_starts l.col_rows)
      (says_both (roomy m l.row_starts l.row_cols) _ (says_roomy m l.row_starts l.row_cols)
      (says_both (leb m (length l.order_rows)) (leb m (length l.order_cols)) (says_most m (length l.order_rows)) (says_most m (length l.order_cols)))))

  unfoldable pub formed : Bool
  formed = listed m l.col_starts l.col_rows && listed m l.row_starts l.row_cols

  pub says_formed : Says formed (Formed m l)
  unfolding formed
  says_formed =
      says_as (λ u. record { columns_formed = u.0; rows_formed = u.1 }) (λ s. (s.columns_formed, s.rows_formed))
      (says_both (listed m l.col_starts l.col_rows) (listed m l.row_starts l.row_cols) (says_listed m l.col_starts l.col_rows) (says_listed m l.row_starts l.row_cols))

  -- Well-formed listings agree where the rows are the columns turned.
  unfoldable pub agree : Bool
  agree = alike (alike eqb) (rows m l) (turned m (columns m l))

  pub says_agree : Formed m l → Says agree (ListingsAgree m l)
  unfolding agree
  says_agree f =
      let C = parts_columns m l.col_starts l.col_rows f.columns_formed in
      let R = parts_columns m l.row_starts l.row_cols f.rows_formed in
      says_as (λ e. subst (SameEntries (columns m l)) (sym e) (turned_same C)) (turned_only C R) (says_alike (alike eqb) (says_alike eqb says_equal) (rows m l) (turned m (columns m l)))

-- ---- The new column

unfoldable pub fitting : (total : ℕ) (col_rows row_cols : List ℕ) → Bool
fitting n col_rows row_cols = leb n max_total && (leb n (length col_rows) && leb n (length row_cols))

pub says_fitting : (n : ℕ) (col_rows row_cols : List ℕ) → Says (fitting n col_rows row_cols) (Fits n col_rows row_cols)
unfolding fitting
says_fitting n col_rows row_cols =
    says_as (λ u. record { few = u.0; in_columns = u.1.0; in_rows = u.1.1 }) (λ s. (s.few, (s.in_columns, s.in_rows)))
    (says_both (leb n max_total) _ (says_most n max_total)
    (says_both (leb n (length col_rows)) (leb n (length row_cols)) (says_most n (length col_rows)) (says_most n (length row_cols))))
