-- Walks through the columns with a cursor for each row: where they begin, one turn, and what they come to.
-- Rests on specs/Walk.antt, Between.antt and Listings.antt.
use mathlib.Core.List.{List, [], ◌∷◌, ◌++◌}
use mathlib.Core.Logic.{◌≢◌}
use mathlib.Core.Path.{◌≡◌, sym, ap, ap₂, ◌∙◌}
use Prim.Native.Nat.{ℕ, ◌+◌, ◌-◌, ◌≤◌, ◌<◌}
use native.Mathlib.Decide.{ℕ_discrete, dec_lt}
use native.Mathlib.Nat.{add-zero}
use native.Mathlib.Omega.{arith}
use lib.ListN.{length, take, drop, set, length-set, length-append}
use lib.Seq.{get_or-set_same, get_or-set_other, append_snoc}
use Rattle.pattern.specs.Pattern.{column}
use Rattle.pattern.specs.Places.{at}
use Rattle.pattern.specs.Series.{numbers}
use Rattle.pattern.specs.Turned.{row_of}
use Rattle.pattern.proofs.Climbing.{climbs}
use Rattle.pattern.proofs.Turning.{Columns, met, met_all, met_here, met_other, Begins, met_begins, met_few}
use Rattle.listing.specs.Limits.{max_size}
use Rattle.listing.specs.Listing.{between, part, parts, Good}
use Rattle.listing.specs.Walk.{Cursors, Walked}
use Rattle.listing.proofs.Between.{between_more, between_same}
use Rattle.listing.proofs.Listings.{good_columns, good_column}

-- What has been met may be put in other words.
module _ {m : ℕ} {base : ℕ → ℕ} {seen seen' : ℕ → List ℕ} {next : List ℕ} (e : (r : ℕ) → r < m → seen r ≡ seen' r) where
  pub cursors_as : Cursors m base seen next → Cursors m base seen' next
  cursors_as N = record { long = N.long; stand = λ r h. N.stand r h ∙ ap (λ (l : List ℕ). base r + length l) (e r h) }

  pub walked_as : {cols : List ℕ} → Walked m base cols seen next → Walked m base cols seen' next
  walked_as W = record { cursors = cursors_as W.cursors; in_row = W.in_row; passed = λ r h. W.passed r h ∙ e r h }

-- ---- Where a walk begins: no column has been read, and each cursor is at its base

module _ {m : ℕ} (base : ℕ → ℕ) (P : List (List ℕ)) {next : List ℕ} (long : length next ≡ max_size) (at_base : (r : ℕ) → r < m → at next r ≡ base r) where
  pub cursors_none : Cursors m base (λ r. row_of P r 0) next
  unfolding numbers
  cursors_none = record { long = long; stand = λ r h. at_base r h ∙ sym (add-zero (base r)) }

  pub walked_none : (cols : List ℕ) → ((r : ℕ) → r < m → base r ≤ base (r + 1)) → Walked m base cols (λ r. row_of P r 0) next
  unfolding numbers
  walked_none cols rise =
      record {
        cursors = cursors_none;
        in_row = λ r h. omega (arith, at_base r h, rise r h);
        passed = λ r h. let e : at next r - base r ≡ 0 = omega (arith, at_base r h) in ap (λ (n : ℕ). take n (drop (base r) cols)) e;
      }

-- ---- One turn: row `i` stands at place `k` of column `j`

pub record Turn (m : ℕ) (P : List (List ℕ)) (j k i : ℕ) : Type 0 where
  pub columns : Columns m P
  pub small : m ≤ max_size
  pub in_size : j < m
  pub in_column : k < length (column P j)
  pub is_row : i ≡ at (column P j) k

-- Of a listing whose part `j` is being read.
module _ {m : ℕ} {starts entries rows : List ℕ} (G : Good m starts entries) {j : ℕ} (h : j < m) (is : rows ≡ part starts entries j) where
  pub turn_of : {k i : ℕ} → k < length rows → i ≡ at rows k → Turn m (parts m starts entries) j k i
  turn_of {k} b e =
      record {
        columns = good_columns G;
        small = G.small;
        in_size = h;
        in_column = omega (arith, ap length (good_column G j h is));
        is_row = e ∙ ap (λ (l : List ℕ). at l k) (good_column G j h is);
      }

  -- At the part's end its column has been read.
  pub column_read : (k : ℕ) → k ≡ length rows → (r : ℕ) → r < m → met (parts m starts entries) r j k ≡ row_of (parts m starts entries) r (j + 1)
  column_read k e r u = ap (met (parts m starts entries) r j) (e ∙ ap length (good_column G j h is)) ∙ met_all (parts m starts entries) r j

module _ {m : ℕ} {P : List (List ℕ)} {j k i : ℕ} (t : Turn m P j k i) where
  pub row_in : i < m
  row_in = omega (arith, t.is_row, (t.columns.rise j t.in_size).below k t.in_column)

  pub count_few : length (met P i j k) ≤ m
  count_few = met_few P i j k m t.in_size

  -- What is met of row `i`, and of the others.
  this : met P i j (k + 1) ≡ met P i j k ++ (j ∷ [])
  this = met_here P i j k t.in_column (t.columns.rise j t.in_size) t.is_row

  other : (r : ℕ) → r ≢ i → met P r j (k + 1) ≡ met P r j k
  other r n = met_other P r j k t.in_column (λ z. n (z ∙ sym t.is_row))

  -- Its cursor goes on by one place.
  pub cursors_more : {base : ℕ → ℕ} {next : List ℕ} (v : ℕ) → v ≡ at next i + 1 → Cursors m base (λ r. met P r j k) next
      → Cursors m base (λ r. met P r j (k + 1)) (set next i v)
  cursors_more {base} {next} v ev N = record { long = length-set next i v ∙ N.long; stand = λ r h. go r h (ℕ_discrete r i) }
    where
      go : (r : ℕ) → r < m → Dec (r ≡ i) → at (set next i v) r ≡ base r + length (met P r j (k + 1))
      go r h (yes e) =
          rw e (get_or-set_same next i v 0 (omega (arith, row_in, t.small, N.long)) ∙ omega (arith, N.stand i row_in, ap length this, length-append (met P i j k) (j ∷ [])))
      go r h (no n) = get_or-set_other next i r v 0 n ∙ N.stand r h ∙ ap (λ (l : List ℕ). base r + length l) (sym (other r n))

  module _ {base : ℕ → ℕ} {cols next : List ℕ} (W : Walked m base cols (λ r. met P r j k) next) (fits : base m ≤ length cols) where
    from_base : (r : ℕ) → r < m → base r ≤ at next r
    from_base r h = omega (arith, W.cursors.stand r h)

    bases_rise : (x y : ℕ) → x ≤ y → y ≤ m → base x ≤ base y
    bases_rise = climbs base m (λ r h. omega (arith, from_base r h, W.in_row r h))

    pub cursor_fits : (r : ℕ) → r < m → at next r ≤ length cols
    cursor_fits r h = omega (arith, W.in_row r h, bases_rise (r + 1) m (omega arith) (omega arith))

    -- The column stands at the cursor, in a list that is the same elsewhere, and the cursor goes past it.
    module _ (room : at next i < base (i + 1)) (cols' : List ℕ) (long : length cols' ≡ length cols) (is : at cols' (at next i) ≡ j)
        (else : (q : ℕ) → q ≢ at next i → at cols' q ≡ at cols q) (v : ℕ) (ev : v ≡ at next i + 1) where
      now_at : at (set next i v) i ≡ at next i + 1
      now_at = get_or-set_same next i v 0 (omega (arith, row_in, t.small, W.cursors.long)) ∙ ev

      still : (r : ℕ) → r ≢ i → at (set next i v) r ≡ at next r
      still r n = get_or-set_other next i r v 0 n

      -- No other row has that place.
      apart : (r q : ℕ) → r < m → r ≢ i → base r ≤ q → q < at next r → q ≢ at next i
      apart r q h n a b e = go (dec_lt r i)
        where
          go : Dec (r < i) → ⊥
          go (yes l) = omega (arith, W.in_row r h, bases_rise (r + 1) i (omega arith) (omega (arith, row_in)), from_base i row_in)
          go (no l) = omega (arith, bases_rise (i + 1) r (omega arith) (omega arith))

      pub walked_more : Walked m base cols' (λ r. met P r j (k + 1)) (set next i v)
      walked_more =
          record {
            cursors = cursors_more v ev W.cursors;
            in_row = λ r h. within r h (ℕ_discrete r i);
            passed = λ r h. has r h (ℕ_discrete r i);
          }
        where
          within : (r : ℕ) → r < m → Dec (r ≡ i) → at (set next i v) r ≤ base (r + 1)
          within r h (yes e) = rw e (omega (arith, now_at))
          within r h (no n) = omega (arith, still r n, W.in_row r h)

          kept : (r : ℕ) → r < m → ((q : ℕ) → base r ≤ q → q < at next r → q ≢ at next i) → between (base r) (at next r) cols' ≡ met P r j k
          kept r h d =
              between_same (base r) (at next r) cols' cols (omega (arith, cursor_fits r h)) (cursor_fits r h) (λ q a b. else q (d q a b)) ∙ W.passed r h

          has : (r : ℕ) → r < m → Dec (r ≡ i) → between (base r) (at (set next i v) r) cols' ≡ met P r j (k + 1)
          has r h (yes e) = rw e (
              ap (λ (b : ℕ). between (base i) b cols') now_at
              ∙ between_more (base i) (at next i) cols' (from_base i row_in) (omega (arith, bases_rise (i + 1) m (omega (arith, row_in)) (omega arith)))
              ∙ ap₂ (λ (l : List ℕ) (x : ℕ). l ++ (x ∷ [])) (kept i row_in (λ q a b z. omega arith)) is
              ∙ sym this)
          has r h (no n) = ap (λ (b : ℕ). between (base r) b cols') (still r n) ∙ kept r h (λ q. apart r q h n) ∙ sym (other r n)

    -- What is left of row `i` begins with column `j`.
    rest : Begins (row_of P i m) (met P i j (k + 1))
    rest = met_begins P i j (k + 1) m t.in_size

    whole : row_of P i m ≡ met P i j k ++ j ∷ rest.rest
    whole = rest.joined ∙ ap (λ (l : List ℕ). l ++ rest.rest) this ∙ append_snoc (met P i j k) j rest.rest

    -- So there is room for it where the whole row has room.
    pub walked_room : base i + length (row_of P i m) ≤ base (i + 1) → at next i < base (i + 1)
    walked_room h = omega (arith, W.cursors.stand i row_in, ap length whole, length-append (met P i j k) (j ∷ rest.rest))
