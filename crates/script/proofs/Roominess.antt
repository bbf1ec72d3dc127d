-- Lists in which every tryout has room keep it, whatever is written over them. Rests on specs/Feed.antt, `pattern`, `listing`,
-- `register`, `judge`, `replace`, `replies` and `turns`.
use mathlib.Core.Bool.{Bool, true, false}
use mathlib.Core.List.{List}
use mathlib.Core.Path.{sym, subst}
use Prim.Native.Nat.{ℕ, ◌+◌, ◌≤◌}
use native.Mathlib.Omega.{arith}
use lib.ListN.{length, take, drop, set, length-append, length-take, length-drop, length-set}
use Rattle.pattern.specs.Flat.{flat, starts_of}
use Rattle.pattern.specs.Places.{at}
use Rattle.pattern.specs.Turned.{turned}
use Rattle.pattern.specs.Verdict.{spiked_columns, cleared_columns, Verdict, Singular, Permuted, Elimination}
use Rattle.pattern.proofs.Rungs.{unless_both}
use Rattle.listing.specs.Held.{over, put}
use Rattle.listing.specs.Limits.{max_size, max_total}
use Rattle.register.specs.Checks.{Fits}
use Rattle.register.specs.Takes.{Takes, holding}
use Rattle.register.specs.Lent.{Lists, lists, columns}
use Rattle.register.specs.Start.{Started, own_places, StartsWith}
use Rattle.judge.specs.Call.{Call, asked}
use Rattle.replace.specs.Replace.{Outcome, refusal, after, Replaces}
use Rattle.replies.proofs.Showing.{over_long}
use Rattle.turns.specs.Turns.{Lent, lent, with_column, with_numbers}
use Rattle.script.specs.Feed.{Roomy}

-- A list that is written over does not get shorter.
put_longer : (k : ℕ) (new old : List ℕ) → length old ≤ length (put k new old)
put_longer k new old =
    omega (arith, length-append (take k old) (over new (drop k old)), over_long new (drop k old), length-take k old, length-drop k old)

-- ---- A register's six lists

-- With the first start set, before any column is there.
abbrev pub with_first : Lists → Lists
with_first l = lists (set l.col_starts 0 0) l.col_rows l.row_starts l.row_cols l.order_rows l.order_cols

-- Room for every register.
abbrev pub Ample : Lists → Type 0
Ample = Takes max_size max_total

-- Room for a register is room for a smaller one.
pub takes_less : {m n t u : ℕ} {l : Lists} → m ≤ n → t ≤ u → Takes n u l → Takes m t l
takes_less h k T =
    record {
      col_starts_fit = omega (arith, T.col_starts_fit);
      col_rows_fit = omega (arith, T.col_rows_fit);
      row_starts_fit = omega (arith, T.row_starts_fit);
      row_cols_fit = omega (arith, T.row_cols_fit);
      order_rows_fit = omega (arith, T.order_rows_fit);
      order_cols_fit = omega (arith, T.order_cols_fit);
    }

pub ample_fits : {t : ℕ} {l : Lists} → Ample l → t ≤ max_total → Fits t l.col_rows l.row_cols
ample_fits T few = record { few = few; in_columns = omega (arith, T.col_rows_fit); in_rows = omega (arith, T.row_cols_fit) }

module _ {n t : ℕ} {l : Lists} (T : Takes n t l) where
  takes_first : Takes n t (with_first l)
  takes_first =
      record {
        col_starts_fit = omega (arith, T.col_starts_fit, length-set l.col_starts 0 0);
        col_rows_fit = T.col_rows_fit;
        row_starts_fit = T.row_starts_fit;
        row_cols_fit = T.row_cols_fit;
        order_rows_fit = T.order_rows_fit;
        order_cols_fit = T.order_cols_fit;
      }

  -- With one column more.
  pub takes_column : (c : ℕ) (rows : List ℕ) (fits : Bool) → Takes n t (with_column l c rows fits)
  takes_column c rows true =
      record {
        col_starts_fit = omega (arith, T.col_starts_fit, length-set l.col_starts (c + 1) (at l.col_starts c + length rows));
        col_rows_fit = omega (arith, T.col_rows_fit, put_longer (at l.col_starts c) rows l.col_rows);
        row_starts_fit = T.row_starts_fit;
        row_cols_fit = T.row_cols_fit;
        order_rows_fit = T.order_rows_fit;
        order_cols_fit = T.order_cols_fit;
      }
  takes_column c rows false = T

  -- With a row listing and an order.
  takes_rows : (starts cols p q : List ℕ)
      → Takes n t (lists l.col_starts l.col_rows (over starts l.row_starts) (over cols l.row_cols) (over p l.order_rows) (over q l.order_cols))
  takes_rows starts cols p q =
      record {
        col_starts_fit = T.col_starts_fit;
        col_rows_fit = T.col_rows_fit;
        row_starts_fit = omega (arith, T.row_starts_fit, over_long starts l.row_starts);
        row_cols_fit = omega (arith, T.row_cols_fit, over_long cols l.row_cols);
        order_rows_fit = omega (arith, T.order_rows_fit, over_long p l.order_rows);
        order_cols_fit = omega (arith, T.order_cols_fit, over_long q l.order_cols);
      }

  -- With a register.
  takes_holding : (m : ℕ) (P : List (List ℕ)) (p q : List ℕ) → Takes n t (holding m P p q l)
  takes_holding m P p q =
      let Q = turned m P in
      let R = takes_rows (starts_of Q) (flat Q) p q in
      record {
        col_starts_fit = omega (arith, T.col_starts_fit, over_long (starts_of P) l.col_starts);
        col_rows_fit = omega (arith, T.col_rows_fit, over_long (flat P) l.col_rows);
        row_starts_fit = R.row_starts_fit;
        row_cols_fit = R.row_cols_fit;
        order_rows_fit = R.order_rows_fit;
        order_cols_fit = R.order_cols_fit;
      }

  -- After a start.
  pub takes_started : (m : ℕ) (o : Started) → StartsWith m l o → Takes n t o.lists
  takes_started m o =
      unless_both Keeps T (λ _.
      unless_both Keeps T (λ _.
      unless_both Keeps T (λ _.
      unless_both Keeps T (λ _ e. let Q = turned m (columns m l) in subst Keeps (sym e) (takes_rows (starts_of Q) (flat Q) (own_places m) (own_places m))))))
    where
      Keeps : Started → Type 0
      Keeps o = Takes n t o.lists

-- ---- After a replacement

-- The lists after a call, and the eta list, have the room that they had.
pub record HasRoom (o : Outcome) : Type 0 where
  pub register : Ample o.lists
  pub eta : max_size ≤ length o.eta

module _ (a : Call) (T : Ample a.lists) (E : max_size ≤ length a.eta) where
  verdict_room : (v : Verdict) → HasRoom (after a v)
  verdict_room Singular = record { register = T; eta = E }
  verdict_room (Permuted p q) = record { register = takes_holding T a.size (spiked_columns (asked a)) p q; eta = E }
  verdict_room (Elimination p q b e) =
      record { register = takes_holding T a.size (cleared_columns (asked a)) p q; eta = omega (arith, over_long e a.eta) }

  pub outcome_room : (o : Outcome) → Replaces a o → HasRoom o
  outcome_room o =
      unless_both HasRoom s (λ _.
      unless_both HasRoom s (λ _.
      unless_both HasRoom s (λ _.
      unless_both HasRoom s (λ _.
      unless_both HasRoom s (λ _.
      unless_both HasRoom s (λ _.
      unless_both HasRoom s (λ _.
      unless_both HasRoom s (λ _ x. subst HasRoom (sym x.2) (verdict_room x.0)))))))))
    where
      s : {n : ℕ} → HasRoom (refusal a n)
      s = record { register = T; eta = E }

-- ---- A run's lists

module _ {l : Lent} (R : Roomy l) where
  -- With the numbers of a line, and the register's changed.
  pub roomy_numbers : (new : List ℕ) {k : Lists} {eta : List ℕ} → Ample k → max_size ≤ length eta → Roomy (with_numbers l new k eta)
  roomy_numbers new T E = record { register = T; eta = E; numbers = omega (arith, R.numbers, over_long new l.numbers); line = R.line }

  -- With the first start set.
  pub roomy_first : Roomy (lent (with_first l.lists) l.eta l.numbers l.line)
  roomy_first = record { register = takes_first R.register; eta = R.eta; numbers = R.numbers; line = R.line }

  -- With one byte more.
  pub roomy_byte : (k b : ℕ) → Roomy (lent l.lists l.eta l.numbers (set l.line k b))
  roomy_byte k b = record { register = R.register; eta = R.eta; numbers = R.numbers; line = omega (arith, R.line, length-set l.line k b) }
