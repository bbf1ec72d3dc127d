-- What each judgment tells, what is then stored, and that this is the verdict's outcome. Rests on specs/Change.antt, Spikes.antt and
-- `judge`.
use mathlib.Core.List.{List}
use mathlib.Core.Path.{◌≡◌, sym, ap, ap₂, ◌∙◌}
use Prim.Native.Nat.{ℕ}
use native.Mathlib.Omega.{arith}
use lib.ListN.{length, take}
use Rattle.pattern.specs.Choice.{NoChoice}
use Rattle.pattern.specs.Flat.{start_of}
use Rattle.pattern.specs.Places.{at, place}
use Rattle.pattern.specs.Turned.{turned}
use Rattle.pattern.specs.Verdict.{size, c_place, c_row, Spike, cleared_columns, Verdict, Singular, Permuted, Elimination, to_last, IsPermuted, IsElimination, Judged}
use Rattle.listing.specs.Held.{over, Held}
use Rattle.register.specs.Checks.{Fits}
use Rattle.register.specs.Lent.{Lists, lists, columns}
use Rattle.register.specs.Order.{Placed}
use Rattle.store.specs.Store.{joined, exchanged}
use Rattle.judge.specs.Call.{Call, asked}
use Rattle.judge.specs.Judge.{Judgeable, Tells, Judges}
use Rattle.judge.specs.declared.Judgment.{Judgment}
use Rattle.judge.specs.declared.Judgment.TheVariants as judgment
use Rattle.judge.proofs.Asked.{call_size, call_place}
use Rattle.replace.specs.ReplaceChecks.{NewFits}
use Rattle.replace.specs.Change.{PermutesLists, ClearsLists}
use Rattle.replace.specs.Replace.{outcome, stored, Answered}
use Rattle.replace.specs.Reply.{Reply, elimination, said}
use Rattle.replace.proofs.Spikes.{call_spiked, call_cleared, spiked_fits, cleared_fits}

-- ---- What a judgment tells

-- The verdicts told apart, and the figures of ELIMINATION.
kind : Judgment → ℕ
kind judgment.Singular = 0
kind judgment.Permuted = 1
kind (judgment.Elimination b n) = 2

figures : Judgment → ℕ × ℕ
figures judgment.Singular = (0, 0)
figures judgment.Permuted = (0, 0)
figures (judgment.Elimination b n) = (b, n)

-- The rows and columns of a PERMUTED order.
pub record Permutes (a : Call) (row_places col_places eta' : List ℕ) : Type 0 where
  pub rows : List ℕ
  pub cols : List ℕ
  pub right : IsPermuted (asked a) rows cols
  pub eta_kept : eta' ≡ a.eta
  pub rows_placed : Placed a.size (at rows) row_places
  pub cols_placed : Placed a.size (at cols) col_places

-- Those of ELIMINATION, and its eta rows.
pub record Eliminates (a : Call) (eta' : List ℕ) (b n : ℕ) : Type 0 where
  pub rows : List ℕ
  pub cols : List ℕ
  pub eta : List ℕ
  pub right : IsElimination (asked a) rows cols b eta
  pub count : n ≡ length eta
  pub eta_after : eta' ≡ over eta a.eta

module _ {a : Call} {row_places col_places eta' : List ℕ} where
  pub told_permuted : {r : Judgment} → r ≡ judgment.Permuted → Judges a row_places col_places eta' r → Permutes a row_places col_places eta'
  unfolding kind
  told_permuted {r} e k = go k.verdict k.right k.tells
    where
      go : (v : Verdict) → Judged (asked a) v → Tells a row_places col_places eta' r v → Permutes a row_places col_places eta'
      go Singular j t = absurd (omega (arith, ap kind (sym e ∙ t.0)))
      go (Permuted rows cols) j t = record { rows = rows; cols = cols; right = j; eta_kept = t.1; rows_placed = t.2; cols_placed = t.3 }
      go (Elimination rows cols b n) j t = absurd (omega (arith, ap kind (sym e ∙ t.0)))

  pub told_elimination : {r : Judgment} {b n : ℕ} → r ≡ judgment.Elimination b n → Judges a row_places col_places eta' r → Eliminates a eta' b n
  unfolding kind figures
  told_elimination {r} {b} {n} e k = go k.verdict k.right k.tells
    where
      go : (v : Verdict) → Judged (asked a) v → Tells a row_places col_places eta' r v → Eliminates a eta' b n
      go Singular j t = absurd (omega (arith, ap kind (sym e ∙ t.0)))
      go (Permuted rows cols) j t = absurd (omega (arith, ap kind (sym e ∙ t.0)))
      go (Elimination rows cols d l) j t =
          let f = ap figures (sym e ∙ t.0) in
          record { rows = rows; cols = cols; eta = l; right = rw (ap (λ (x : ℕ × ℕ). x.0) f) j; count = ap (λ (x : ℕ × ℕ). x.1) f; eta_after = t.1 }

-- ---- What the lists hold afterwards

lists_same : {cs cr rs rc or oc cs' cr' rs' rc' or' oc' : List ℕ} → cs ≡ cs' → cr ≡ cr' → rs ≡ rs' → rc ≡ rc' → or ≡ or' → oc ≡ oc'
    → lists cs cr rs rc or oc ≡ lists cs' cr' rs' rc' or' oc'
lists_same a b c d e f = cc (a, b, c, d, e, f)

outcome_same : {r r' : Reply} {l l' : Lists} {e e' : List ℕ} → r ≡ r' → l ≡ l' → e ≡ e' → outcome r l e ≡ outcome r' l' e'
outcome_same a b c = cc (a, b, c)

module _ {a : Call} (J : Judgeable a) where
  abbrev m : ℕ
  m = a.size

  abbrev before : List (List ℕ)
  before = columns m a.lists

  -- ---- PERMUTED

  -- There is room for what is stored.
  pub spiked_room : NewFits a → Fits (start_of (exchanged m before a.column m a.new_rows) m) a.lists.col_rows a.lists.row_cols
  spiked_room F = rw (call_spiked J) (spiked_fits J F)

  pub permuted_stored : {cs cr rs rc or oc row_places col_places : List ℕ}
      → Held (exchanged m before a.column m a.new_rows) a.lists.col_starts a.lists.col_rows cs cr
      → Held (turned m (exchanged m before a.column m a.new_rows)) a.lists.row_starts a.lists.row_cols rs rc
      → ((order : List ℕ) → length order ≡ m → Placed m (at order) row_places → or ≡ over order a.lists.order_rows)
      → ((order : List ℕ) → length order ≡ m → Placed m (at order) col_places → oc ≡ over order a.lists.order_cols)
      → PermutesLists a row_places col_places (lists cs cr rs rc or oc)
  permuted_stored H K rows-laid cols-laid rows cols n k p q =
      let S = rw (call_spiked J) at H in
      let T = rw (call_spiked J) at K in
      lists_same S.starts_after S.entries_after T.starts_after T.entries_after (rows-laid rows n p) (cols-laid cols k q)

  pub permuted_answered : {r : Judgment} {l : Lists} {row_places col_places eta' : List ℕ} → r ≡ judgment.Permuted
      → Permutes a row_places col_places eta' → PermutesLists a row_places col_places l → Answered a (outcome (said r) l eta')
  permuted_answered e k left =
      let R = k.right in (
        Permuted k.rows k.cols,
        R,
        outcome_same (ap said e)
            (left k.rows k.cols (R.row_count ∙ call_size J) (R.col_count ∙ call_size J) k.rows_placed k.cols_placed)
            k.eta_kept,
      )

  -- ---- ELIMINATION

  -- The rows that are stored are the new ones with row r.
  module _ {r : ℕ} {rows : List ℕ} (er : r ≡ c_row (asked a)) (el : rows ≡ joined m r a.new_rows) where
    pub cleared_room : NewFits a → ¬ NoChoice (Spike (asked a)) (size (asked a))
        → Fits (start_of (exchanged m before a.column r rows) m) a.lists.col_rows a.lists.row_cols
    cleared_room F some = rw (call_cleared J er el) (cleared_fits J F some)

    pub cleared_stored : {cs cr rs rc or oc : List ℕ} (t : ℕ)
        → Held (exchanged m before a.column r rows) a.lists.col_starts a.lists.col_rows cs cr
        → Held (turned m (exchanged m before a.column r rows)) a.lists.row_starts a.lists.row_cols rs rc
        → or ≡ over (to_last t (take m a.lists.order_rows)) a.lists.order_rows
        → oc ≡ over (to_last t (take m a.lists.order_cols)) a.lists.order_cols
        → ClearsLists a t (lists cs cr rs rc or oc)
    cleared_stored t H K rows-moved cols-moved =
        let S = rw (call_cleared J er el) at H in
        let T = rw (call_cleared J er el) at K in
        lists_same S.starts_after S.entries_after T.starts_after T.entries_after rows-moved cols-moved

  pub cleared_answered : {r : Judgment} {l : Lists} {eta' : List ℕ} {t b n : ℕ} → r ≡ judgment.Elimination b n
      → t ≡ place (at a.lists.order_cols) m a.column → Eliminates a eta' b n → ClearsLists a t l → Answered a (outcome (said r) l eta')
  cleared_answered {t = t} {b = b} er et k left =
      let R = k.right in
      let e : t ≡ c_place (asked a) = et ∙ sym (call_place J) in (
        Elimination k.rows k.cols b k.eta,
        R,
        outcome_same (ap said er ∙ ap (elimination b) k.count)
            (left
            ∙ ap₂ (stored a (cleared_columns (asked a)))
            (ap (λ (x : ℕ). to_last x (take m a.lists.order_rows)) e ∙ sym R.rows_after)
            (ap (λ (x : ℕ). to_last x (take m a.lists.order_cols)) e ∙ sym R.cols_after))
            k.eta_after,
      )
