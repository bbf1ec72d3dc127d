-- A pattern turned is the one listing of its entries by rows; and what a walk through the columns has met of each row.
-- Rests on Numbers.antt and Each.antt.
use mathlib.Core.Bool.{Bool, true, false, cond}
use mathlib.Core.List.{List, [], ◌∷◌, ◌++◌, append-nil, append_assoc}
use mathlib.Core.Logic.{◌≢◌, ◌↔◌, ⊎_elim}
use mathlib.Core.Path.{◌≡◌, refl, sym, ap, ◌∙◌}
use Prim.Native.Nat.{ℕ, zero, suc, ◌+◌, ◌≤◌, ◌<◌}
use native.Mathlib.Numerals.{add-one}
use native.Mathlib.Omega.{arith}
use lib.Dec.{T}
use lib.ListN.{length, take, drop, take-append-drop, length-append}
use lib.Seq.{take-suc, take-length, length-take-le, get_or-take}
use Rattle.pattern.specs.Pattern.{has, column, Entry}
use Rattle.pattern.specs.Places.{at}
use Rattle.pattern.specs.Series.{numbers, each}
use Rattle.pattern.specs.Rising.{Rising}
use Rattle.pattern.specs.Turned.{row_of, turned, SameEntries}
use Rattle.pattern.proofs.Each.{length_each, each_at, each_same, each_is}
use Rattle.pattern.proofs.Numbers.{numbers_rise, numbers_are, numbers_few}
use Rattle.pattern.proofs.Search.{last_or}
use Rattle.pattern.proofs.Rises.{rising_below, rising_less, rising_same}
use Rattle.pattern.proofs.Tests.{T_dec, T_true, T_false, has_append, has_left, has_right, has_cases, has_here, has_among}

-- A pattern of size `m`, listed by columns: each column's rows are in range and rise.
pub record Columns (m : ℕ) (P : List (List ℕ)) : Type 0 where
  pub size : length P ≡ m
  pub rise : (c : ℕ) → c < m → Rising m (column P c)

pub column_below : (P : List (List ℕ)) (r c : ℕ) → Entry P r c → c < length P
column_below [] r c e = absurd e
column_below (l ∷ P) r zero e = omega arith
column_below (l ∷ P) r (suc c) e = omega (arith, column_below P r c e)

pub row_below : {m : ℕ} {P : List (List ℕ)} → Columns m P → (r c : ℕ) → Entry P r c → r < m
row_below {P = P} C r c e = rising_below (C.rise c (omega (arith, column_below P r c e, C.size))) r e

-- ---- The pattern turned

module _ (m : ℕ) (P : List (List ℕ)) where
  pub turned_row : (r : ℕ) → r < m → column (turned m P) r ≡ row_of P r m
  turned_row r h = each_at (λ r. row_of P r m) m r [] h

  pub turned_columns : Columns m (turned m P)
  turned_columns =
      record {
        size = length_each (λ r. row_of P r m) m;
        rise = λ r h. rw (turned_row r h) (numbers_rise (λ c. has (column P c) r) m);
      }

-- Lists of columns for the rows have the same entries exactly when each row has the columns that have it.
module _ {m : ℕ} {P Q : List (List ℕ)} (C : Columns m P) (D : Columns m Q) where
  are : (r c : ℕ) → T (has (row_of P r m) c) ↔ ((c < m) × Entry P r c)
  are r c = numbers_are (λ y. has (column P y) r) m c

  in_size : (r c : ℕ) → Entry P r c → c < m
  in_size r c e = omega (arith, column_below P r c e, C.size)

  pub rows_same : ((r : ℕ) → r < m → column Q r ≡ row_of P r m) → SameEntries P Q
  rows_same row r c = (
    λ e. rw (row r (row_below C r c e)) ((are r c).1 (in_size r c e, e)),
    λ e. ((are r c).0 (rw (row r (omega (arith, column_below Q c r e, D.size))) at e)).1,
  )

  pub same_rows : SameEntries P Q → (r : ℕ) → r < m → column Q r ≡ row_of P r m
  same_rows same r h =
      rising_same (column Q r) (row_of P r m) (D.rise r h) (numbers_rise (λ c. has (column P c) r) m)
      (λ c e. let u = (same r c).1 e in (are r c).1 (in_size r c u, u))
      (λ c e. (same r c).0 ((are r c).0 e).1)

-- So a pattern turned has the same entries, and is the only listing that has.
pub turned_same : {m : ℕ} {P : List (List ℕ)} → Columns m P → SameEntries P (turned m P)
turned_same {m} {P} C = rows_same C (turned_columns m P) (turned_row m P)

pub turned_only : {m : ℕ} {P Q : List (List ℕ)} → Columns m P → Columns m Q → SameEntries P Q → Q ≡ turned m P
turned_only {m} {P} {Q} C D same =
    sym (each_is Q []) ∙ ap (each (column Q)) D.size ∙ each_same (column Q) (λ r. row_of P r m) m (same_rows C D same)

-- ---- Walking through the columns

-- The columns that have been met of row `r`, where those before column `j` have been read, and `k` rows of column `j`.
unfoldable pub met : List (List ℕ) → ℕ → ℕ → ℕ → List ℕ
met P r j k = row_of P r j ++ cond (has (take k (column P j)) r) (j ∷ []) []

-- A list begins with another.
pub record Begins (l front : List ℕ) : Type 0 where
  pub rest : List ℕ
  pub joined : l ≡ front ++ rest

begins_through : {l k j : List ℕ} → Begins l k → Begins k j → Begins l j
begins_through {j = j} a b = record { rest = b.rest ++ a.rest; joined = a.joined ∙ ap (λ (k : List ℕ). k ++ a.rest) b.joined ∙ append_assoc j b.rest a.rest }

module _ (P : List (List ℕ)) (r j : ℕ) where
  pub met_none : met P r j 0 ≡ row_of P r j
  unfolding met
  met_none = append-nil (row_of P r j)

  pub met_all : met P r j (length (column P j)) ≡ row_of P r (j + 1)
  unfolding met numbers
  met_all = ap (λ (l : List ℕ). row_of P r j ++ cond (has l r) (j ∷ []) []) (take-length (column P j)) ∙ ap (row_of P r) (sym (add-one j))

  module _ (k : ℕ) (h : k < length (column P j)) where
    met_on : met P r j (k + 1) ≡ row_of P r j ++ cond (has (take k (column P j) ++ (at (column P j) k ∷ [])) r) (j ∷ []) []
    unfolding met
    met_on = ap (λ (l : List ℕ). row_of P r j ++ cond (has l r) (j ∷ []) []) (ap (λ (n : ℕ). take n (column P j)) (add-one k) ∙ take-suc (column P j) k 0 h)

    -- One more row of column `j` is another one.
    pub met_other : r ≢ at (column P j) k → met P r j (k + 1) ≡ met P r j k
    unfolding met
    met_other n = met_on ∙ ap (λ (b : Bool). row_of P r j ++ cond b (j ∷ []) []) (same (T_dec (has (take k (column P j)) r)))
      where
        same : Dec (T (has (take k (column P j)) r)) → has (take k (column P j) ++ (at (column P j) k ∷ [])) r ≡ has (take k (column P j)) r
        same (yes t) = T_true _ (has_left (take k (column P j)) _ r t) ∙ sym (T_true _ t)
        same (no f) = T_false _ (λ t. ⊎_elim f (λ u. ⊎_elim (λ e. n (sym e)) (λ v. v) (has_cases _ r [] u)) (has_append (take k (column P j)) _ r t)) ∙ sym (T_false _ f)

    -- It is row `r`.
    pub met_here : {m : ℕ} → Rising m (column P j) → r ≡ at (column P j) k → met P r j (k + 1) ≡ met P r j k ++ (j ∷ [])
    unfolding met
    met_here s e = met_on ∙ rw (now, before, append-nil)
      where
        now : has (take k (column P j) ++ (at (column P j) k ∷ [])) r ≡ true
        now = T_true _ (has_right (take k (column P j)) (at (column P j) k ∷ []) r (has_here (at (column P j) k) r [] (sym e)))

        before : has (take k (column P j)) r ≡ false
        before = T_false _ (λ t.
            let a = has_among (take k (column P j)) r t in
            let i : a.0 < k = omega (arith, a.1, length-take-le k (column P j) (omega arith)) in
            omega (arith, rising_less s a.0 k i h, a.2, get_or-take k (column P j) a.0 0 i))

  -- What has been met is the beginning of what there is.
  met_next : (k : ℕ) → Begins (row_of P r (j + 1)) (met P r j k)
  unfolding met numbers
  met_next k = rw add-one (go (T_dec (has (take k (column P j)) r)))
    where
      tail : Bool → List ℕ
      tail b = cond b (j ∷ []) []

      go : Dec (T (has (take k (column P j)) r)) → Begins (row_of P r j ++ tail (has (column P j) r)) (row_of P r j ++ tail (has (take k (column P j)) r))
      go (yes t) =
          let there : has (column P j) r ≡ true = T_true _ (rw take-append-drop at (has_left (take k (column P j)) (drop k (column P j)) r t)) in
          record { rest = []; joined = rw (there, T_true (has (take k (column P j)) r) t, append-nil) }
      go (no n) = record { rest = tail (has (column P j) r); joined = rw (T_false (has (take k (column P j)) r) n, append-nil) }

-- More columns list more.
row_begins : (P : List (List ℕ)) (r n m : ℕ) → n ≤ m → Begins (row_of P r m) (row_of P r n)
unfolding numbers
row_begins P r n zero h = let e : n ≡ 0 = omega arith in rw e (record { rest = []; joined = refl })
row_begins P r n (suc m) h =
    ⊎_elim
    (λ u. begins_through (record { rest = _; joined = refl }) (row_begins P r n m (omega arith)))
    (λ e. rw e (record { rest = []; joined = sym (append-nil _) }))
    (last_or (suc m) n (omega arith))

pub met_begins : (P : List (List ℕ)) (r j k m : ℕ) → j < m → Begins (row_of P r m) (met P r j k)
met_begins P r j k m h = begins_through (row_begins P r (j + 1) m (omega arith)) (met_next P r j k)

pub met_few : (P : List (List ℕ)) (r j k m : ℕ) → j < m → length (met P r j k) ≤ m
met_few P r j k m h =
    let b = met_begins P r j k m h in
    omega (arith, numbers_few (λ c. has (column P c) r) m, ap length b.joined, length-append (met P r j k) b.rest)
