-- Lists that hold the same columns so far, beyond which they may differ: one column more, and all of them as a listing. Rests on
-- Heads.antt, Roominess.antt, `pattern`, `listing`, `register` and `turns`.
use mathlib.Core.Bool.{true}
use mathlib.Core.List.{List, ◌++◌}
use mathlib.Core.Path.{◌≡◌, refl, sym, ap, ap₂, ◌∙◌}
use Prim.Native.Nat.{ℕ, ◌+◌, ◌≤◌, ◌<◌}
use native.Mathlib.Omega.{arith}
use lib.ListN.{length, take, set}
use lib.Seq.{get_or-set_same, get_or-set_other}
use Rattle.pattern.specs.Places.{at}
use Rattle.pattern.proofs.Each.{each_same}
use Rattle.listing.specs.Held.{put}
use Rattle.listing.specs.Limits.{max_total}
use Rattle.listing.specs.Listing.{between, part, Starts, Listing}
use Rattle.listing.proofs.Between.{between_same}
use Rattle.listing.proofs.Listings.{starts_rise}
use Rattle.listing.proofs.Stores.{stored_more}
use Rattle.register.specs.Lent.{Lists, columns}
use Rattle.turns.specs.Turns.{with_column}
use Rattle.script.proofs.Heads.{head_at, put_head}
use Rattle.script.proofs.Roominess.{with_first}

-- The starts up to start `c` are the same, and the rows before it, which are at most 12,000.
pub record ColumnsAgree (c : ℕ) (l l' : Lists) : Type 0 where
  pub starts : (k : ℕ) → k ≤ c → at l.col_starts k ≡ at l'.col_starts k
  pub few : at l.col_starts c ≤ max_total
  pub rows : take (at l.col_starts c) l.col_rows ≡ take (at l.col_starts c) l'.col_rows

pub agree_back : {c : ℕ} {l l' : Lists} → ColumnsAgree c l l' → ColumnsAgree c l' l
agree_back {c} {l} {l'} A =
    record {
      starts = λ k h. sym (A.starts k h);
      few = omega (arith, A.starts c (omega arith), A.few);
      rows = rw (sym (A.starts c (omega arith))) (sym A.rows);
    }

-- Before any column is there.
pub columns_none : (l l' : Lists) → 0 < length l.col_starts → 0 < length l'.col_starts → ColumnsAgree 0 (with_first l) (with_first l')
columns_none l l' h h' =
    record {
      starts = λ k b. let e : k ≡ 0 = omega arith in rw e (none ∙ sym (get_or-set_same l'.col_starts 0 0 0 h'));
      few = omega (arith, none);
      rows = rw none refl;
    }
  where
    none : at (set l.col_starts 0 0) 0 ≡ 0
    none = get_or-set_same l.col_starts 0 0 0 h

-- ---- One column more

module _ {c : ℕ} {l l' : Lists} (A : ColumnsAgree c l l') (rows : List ℕ) (room : c + 1 < length l.col_starts) (room' : c + 1 < length l'.col_starts)
    (long : max_total ≤ length l.col_rows) (long' : max_total ≤ length l'.col_rows) (fits : at l.col_starts c + length rows ≤ max_total) where
  abbrev from : ℕ
  from = at l.col_starts c

  abbrev from' : ℕ
  from' = at l'.col_starts c

  same_from : from ≡ from'
  same_from = A.starts c (omega arith)

  pub columns_more : ColumnsAgree (c + 1) (with_column l c rows true) (with_column l' c rows true)
  columns_more =
      record {
        starts = λ k h.
            stored_more (at (set l'.col_starts (c + 1) (from' + length rows))) l.col_starts (c + 1) (from + length rows) room
            (ap (λ (n : ℕ). n + length rows) same_from ∙ sym (get_or-set_same l'.col_starts (c + 1) (from' + length rows) 0 room'))
            (λ x b. A.starts x (omega arith) ∙ sym (get_or-set_other l'.col_starts (c + 1) x (from' + length rows) 0 (λ e. omega arith))) k (omega arith);
        few = omega (arith, now);
        rows =
            ap (λ (n : ℕ). take n (put from rows l.col_rows)) now
            ∙ put_head from rows l.col_rows (omega (arith, A.few))
            ∙ ap (λ (k : List ℕ). k ++ rows) A.rows
            ∙ sym (put_head from rows l'.col_rows (omega (arith, A.few)))
            ∙ ap₂ (λ (n k : ℕ). take n (put k rows l'.col_rows)) (sym now) same_from;
      }
    where
      now : at (set l.col_starts (c + 1) (from + length rows)) (c + 1) ≡ from + length rows
      now = get_or-set_same l.col_starts (c + 1) (from + length rows) 0 room

-- ---- All columns

module _ {m : ℕ} {l l' : Lists} (A : ColumnsAgree m l l') (long : max_total ≤ length l.col_rows) (long' : max_total ≤ length l'.col_rows)
    (S : Starts m l.col_starts) where
  part_same : (k : ℕ) → k < m → part l.col_starts l.col_rows k ≡ part l'.col_starts l'.col_rows k
  part_same k h =
      let u = starts_rise S (k + 1) m (omega arith) (omega arith) in
      between_same (at l.col_starts k) (at l.col_starts (k + 1)) l.col_rows l'.col_rows (omega (arith, A.few)) (omega (arith, A.few))
      (λ i a b. head_at (at l.col_starts m) l.col_rows l'.col_rows A.rows i (omega arith))
      ∙ ap₂ (λ (a b : ℕ). between a b l'.col_rows) (A.starts k (omega arith)) (A.starts (k + 1) (omega arith))

  pub columns_same : columns m l ≡ columns m l'
  columns_same = each_same (part l.col_starts l.col_rows) (part l'.col_starts l'.col_rows) m part_same

  starts_same : Starts m l'.col_starts
  starts_same =
      record {
        first = sym (A.starts 0 (omega arith)) ∙ S.first;
        never_fall = λ k h. omega (arith, A.starts k (omega arith), A.starts (k + 1) (omega arith), S.never_fall k h);
        total = omega (arith, A.starts m (omega arith), S.total);
      }

  pub listing_same : Listing m l.col_starts l.col_rows → Listing m l'.col_starts l'.col_rows
  listing_same L = record { starts_right = starts_same; rise = λ k h. rw (sym (part_same k h)) (L.rise k h) }
