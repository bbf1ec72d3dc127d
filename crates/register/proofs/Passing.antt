-- A walk through the columns that reads a row listing: one column, and what the cursors then have passed. Rests on `pattern` and
-- `listing`.
use mathlib.Core.List.{List, [], ◌∷◌, ◌++◌}
use mathlib.Core.Logic.{◌⊎◌, inl, inr, ⊎_elim}
use mathlib.Core.Path.{◌≡◌, refl, sym, ap, ap₂, ◌∙◌, subst}
use Prim.Native.Nat.{ℕ, ◌+◌, ◌≤◌, ◌<◌}
use native.Mathlib.Nat.{add-zero}
use native.Mathlib.Numerals.{add-one}
use native.Mathlib.Omega.{arith}
use lib.Dec.{T}
use lib.ListN.{length, take, set, length-set, length-append}
use lib.Seq.{take-suc, length-take-le, get_or-take, get_or-set_same, get_or-set_other, get_or-append_seam, append_snoc}
use Rattle.pattern.specs.Pattern.{has, column}
use Rattle.pattern.specs.Places.{at}
use Rattle.pattern.specs.Rising.{Rising}
use Rattle.pattern.specs.Series.{numbers}
use Rattle.pattern.specs.Turned.{row_of}
use Rattle.pattern.proofs.Numbers.{numbers_more, numbers_skip, numbers_few}
use Rattle.pattern.proofs.Rises.{rising_below, rising_less}
use Rattle.pattern.proofs.Tests.{T_dec, T_true, T_false, has_append, has_left, has_right, has_cases, has_here, has_among, among_has}
use Rattle.pattern.proofs.Turning.{Columns, Begins, met, met_all, met_begins}
use Rattle.listing.specs.Limits.{max_size, max_total}
use Rattle.listing.specs.Listing.{between, Room, Starts}
use Rattle.listing.specs.Walk.{Cursors, AllNext, Past, RowsTurned}
use Rattle.listing.proofs.Between.{between_length, between_at, between_none, between_more}
use Rattle.listing.proofs.Listings.{part_within, starts_rise}

-- ---- The rows of one column, which is `j`

module _ {cols : List ℕ} {j : ℕ} where
  pub past_none : (rows : List ℕ) {next : List ℕ} → length next ≡ max_size → Past cols j (take 0 rows) next next
  past_none rows long = record { long = long; there = λ r t. absurd t; past = λ r t. absurd t; still = λ r n. refl }

  -- The row at place `k` is `i`, and those before it have been read.
  module _ {n : ℕ} {rows next next₁ : List ℕ} {k i : ℕ} (up : Rising n rows) (h : k < length rows) (is : i ≡ at rows k)
      (M : Past cols j (take k rows) next next₁) where
    fresh : ¬ T (has (take k rows) i)
    fresh t =
        let a = has_among (take k rows) i t in
        let u : a.0 < k = omega (arith, a.1, length-take-le k rows (omega arith)) in
        omega (arith, rising_less up a.0 k u h, a.2, get_or-take k rows a.0 0 u)

    -- Its cursor stands where it stood.
    stands : at next₁ i ≡ at next i
    stands = M.still i fresh

    here : T (has rows i)
    here = subst (λ (x : ℕ). T (has rows x)) (sym is) (among_has rows k h)

    pub cursor_most : {most : ℕ} → ((r : ℕ) → T (has rows r) → at next r ≤ most) → at next₁ i ≤ most
    cursor_most all = omega (arith, stands, all i here)

    on : take (k + 1) rows ≡ take k rows ++ (at rows k ∷ [])
    on = ap (λ (n : ℕ). take n rows) (add-one k) ∙ take-suc rows k 0 h

    read : (r : ℕ) → T (has (take (k + 1) rows) r) → T (has (take k rows) r) ⊎ (r ≡ i)
    read r t =
        ⊎_elim (λ u. inl u) (λ u. inr (⊎_elim (λ e. sym (is ∙ e)) (λ v. absurd v) (has_cases (at rows k) r [] u)))
        (has_append (take k rows) (at rows k ∷ []) r (subst (λ (l : List ℕ). T (has l r)) on t))

    still_read : (r : ℕ) → T (has (take k rows) r) → T (has (take (k + 1) rows) r)
    still_read r t = subst (λ (l : List ℕ). T (has l r)) (sym on) (has_left (take k rows) (at rows k ∷ []) r t)

    now_read : T (has (take (k + 1) rows) i)
    now_read =
        subst (λ (l : List ℕ). T (has l i)) (sym on) (has_right (take k rows) (at rows k ∷ []) i (has_here (at rows k) i [] (sym is)))

    pub past_more : i < max_size → at next₁ i < length cols → at cols (at next₁ i) ≡ j → (v : ℕ) → v ≡ at next₁ i + 1
        → Past cols j (take (k + 1) rows) next (set next₁ i v)
    past_more small room at_next v ev =
        record {
          long = length-set next₁ i v ∙ M.long;
          there = λ r t. ⊎_elim (λ u. M.there r u) (λ e. rw e first) (read r t);
          past = λ r t. ⊎_elim
              (λ u. get_or-set_other next₁ i r v 0 (λ z. fresh (subst (λ (x : ℕ). T (has (take k rows) x)) z u)) ∙ M.past r u)
              (λ e. rw e (get_or-set_same next₁ i v 0 (omega (arith, M.long)) ∙ ev ∙ ap (λ (x : ℕ). x + 1) stands))
              (read r t);
          still = λ r f. get_or-set_other next₁ i r v 0 (λ z. f (subst (λ (x : ℕ). T (has (take (k + 1) rows) x)) (sym z) now_read))
              ∙ M.still r (λ t. f (still_read r t));
        }
      where
        first : (at next i < length cols) × (at cols (at next i) ≡ j)
        first = (omega (arith, stands), ap (at cols) (sym stands) ∙ at_next)

    -- Where each row has column `j` next, so has this one.
    pub has_next : AllNext cols j rows next → (at next₁ i < length cols) × (at cols (at next₁ i) ≡ j)
    has_next all = rw stands (all i here)

-- ---- The columns before column `j`

-- Each row's cursor has gone on from the row's base, in the list `cols`, past the columns `seen r`.
pub record Passed (m : ℕ) (base : ℕ → ℕ) (cols : List ℕ) (seen : ℕ → List ℕ) (next : List ℕ) : Type 0 where
  pub cursors : Cursors m base seen next
  pub in_list : (r : ℕ) → r < m → at next r ≤ length cols
  pub passed : (r : ℕ) → r < m → between (base r) (at next r) cols ≡ seen r

-- None has been read, and each cursor is at its base.
pub passed_none : {m : ℕ} {base : ℕ → ℕ} (P : List (List ℕ)) (cols : List ℕ) {next : List ℕ} → length next ≡ max_size
    → ((r : ℕ) → r < m → at next r ≡ base r) → ((r : ℕ) → r < m → base r ≤ length cols) → Passed m base cols (λ r. row_of P r 0) next
unfolding numbers
passed_none {base = base} P cols long at_base fits =
    record {
      cursors = record { long = long; stand = λ r h. at_base r h ∙ sym (add-zero (base r)) };
      in_list = λ r h. omega (arith, at_base r h, fits r h);
      passed = λ r h. rw (at_base r h) (between_none (base r) cols);
    }

module _ (P : List (List ℕ)) (j : ℕ) where
  -- The columns of a row that has column `j`, and of one that has not.
  this : (r : ℕ) → T (has (column P j) r) → row_of P r (j + 1) ≡ row_of P r j ++ (j ∷ [])
  this r t = numbers_more (λ c. has (column P c) r) j (T_true _ t)

  other : (r : ℕ) → ¬ T (has (column P j) r) → row_of P r (j + 1) ≡ row_of P r j
  other r n =
      numbers_skip (λ c. has (column P c) r) j (j + 1) (omega arith)
      (λ k a b. let e : k ≡ j = omega arith in ap (λ (c : ℕ). has (column P c) r) e ∙ T_false _ n)

  -- Column `j` has been read too.
  pub passed_more : {m : ℕ} {base : ℕ → ℕ} {cols next next' : List ℕ} → Passed m base cols (λ r. row_of P r j) next → Past cols j (column P j) next next'
      → Passed m base cols (λ r. row_of P r (j + 1)) next'
  passed_more {m} {base} {cols} {next} {next'} W M =
      record {
        cursors = record { long = M.long; stand = λ r h. stand r h (T_dec (has (column P j) r)) };
        in_list = λ r h. in_list r h (T_dec (has (column P j) r));
        passed = λ r h. passed r h (T_dec (has (column P j) r));
      }
    where
      stand : (r : ℕ) → r < m → Dec (T (has (column P j) r)) → at next' r ≡ base r + length (row_of P r (j + 1))
      stand r h (yes t) = omega (arith, M.past r t, W.cursors.stand r h, ap length (this r t), length-append (row_of P r j) (j ∷ []))
      stand r h (no n) = omega (arith, M.still r n, W.cursors.stand r h, ap length (other r n))

      in_list : (r : ℕ) → r < m → Dec (T (has (column P j) r)) → at next' r ≤ length cols
      in_list r h (yes t) = omega (arith, M.past r t, (M.there r t).0)
      in_list r h (no n) = omega (arith, M.still r n, W.in_list r h)

      passed : (r : ℕ) → r < m → Dec (T (has (column P j) r)) → between (base r) (at next' r) cols ≡ row_of P r (j + 1)
      passed r h (yes t) =
          ap (λ (b : ℕ). between (base r) b cols) (M.past r t)
          ∙ between_more (base r) (at next r) cols (omega (arith, W.cursors.stand r h)) (M.there r t).0
          ∙ ap₂ (λ (l : List ℕ) (x : ℕ). l ++ (x ∷ [])) (W.passed r h) (M.there r t).1
          ∙ sym (this r t)
      passed r h (no n) = ap (λ (b : ℕ). between (base r) b cols) (M.still r n) ∙ W.passed r h ∙ sym (other r n)

-- ---- A row listing that is read from its starts

module _ {m : ℕ} {starts cols : List ℕ} (R : Room m starts cols) (S : Starts m starts) where
  -- A cursor is at most this.
  pub cursor_small : (P : List (List ℕ)) (j : ℕ) {next : List ℕ} → Cursors m (at starts) (λ r. row_of P r j) next → j ≤ max_size
      → (r : ℕ) → r < m → at next r ≤ max_total + max_size
  cursor_small P j N h r b =
      omega (arith, N.stand r b, starts_rise S r m (omega arith) (omega arith), S.total, numbers_few (λ c. has (column P c) r) j)

  -- Where it is the columns turned, each row of the next column has that column next.
  pub turned_next : (P : List (List ℕ)) (j : ℕ) {next : List ℕ} → Columns m P → j < m → Cursors m (at starts) (λ r. row_of P r j) next
      → RowsTurned m P starts cols → AllNext cols j (column P j) next
  turned_next P j {next} C h N all r t = (omega (arith, room, part_within R S r in_size), is_next)
    where
      in_size : r < m
      in_size = rising_below (C.rise j h) r t

      after : Begins (row_of P r m) (met P r j (length (column P j)))
      after = met_begins P r j (length (column P j)) m h

      whole : row_of P r m ≡ row_of P r j ++ j ∷ after.rest
      whole =
          after.joined
          ∙ ap (λ (l : List ℕ). l ++ after.rest) (met_all P r j ∙ this P j r t)
          ∙ append_snoc (row_of P r j) j after.rest

      room : at next r < at starts (r + 1)
      room =
          omega (
            arith,
            N.stand r in_size,
            S.never_fall r in_size,
            ap length (all r in_size),
            between_length (at starts r) (at starts (r + 1)) cols (part_within R S r in_size).in_list,
            ap length whole,
            length-append (row_of P r j) (j ∷ after.rest),
          )

      is_next : at cols (at next r) ≡ j
      is_next =
          ap (at cols) (N.stand r in_size)
          ∙ sym (between_at (at starts r) (at starts (r + 1)) cols (length (row_of P r j)) (omega (arith, N.stand r in_size, room)))
          ∙ ap (λ (l : List ℕ). at l (length (row_of P r j))) (all r in_size ∙ whole)
          ∙ get_or-append_seam (row_of P r j) j after.rest 0
