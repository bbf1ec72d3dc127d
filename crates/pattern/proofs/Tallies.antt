-- Sums of what a function gives, and that a pattern turned has as many entries. Rests on Climbing.antt and Turning.antt.
use mathlib.Core.List.{List, [], ◌∷◌}
use mathlib.Core.Logic.{◌≢◌, ⊎_elim}
use mathlib.Core.Path.{◌≡◌, refl, sym, ap, ap₂, ◌∙◌}
use Prim.Native.Nat.{ℕ, zero, suc, ◌+◌, ◌≤◌, ◌<◌}
use native.Mathlib.Nat.{add-zero}
use native.Mathlib.Numerals.{add-one}
use native.Mathlib.Omega.{arith}
use lib.ListN.{length, length-append}
use Rattle.pattern.specs.Flat.{flat, start_of}
use Rattle.pattern.specs.Pattern.{column}
use Rattle.pattern.specs.Places.{at}
use Rattle.pattern.specs.Series.{tally, numbers}
use Rattle.pattern.specs.Turned.{row_of, turned}
use Rattle.pattern.proofs.Climbing.{climbs}
use Rattle.pattern.proofs.Search.{last_or}
use Rattle.pattern.proofs.Turning.{Columns, met, met_none, met_all, met_here, met_other, turned_row}

-- ---- Sums

module _ (f : ℕ → ℕ) where
  pub tally_none : tally f 0 ≡ 0
  unfolding tally
  tally_none = refl

  pub tally_next : (n : ℕ) → tally f (n + 1) ≡ tally f n + f n
  unfolding tally
  tally_next n = ap (tally f) (add-one n)

  pub tally_more : (m n : ℕ) → m ≤ n → tally f m ≤ tally f n
  tally_more m n h = climbs (tally f) n (λ k u. omega (arith, tally_next k)) m n h (omega arith)

  pub tally_zero : (n : ℕ) → ((i : ℕ) → i < n → f i ≡ 0) → tally f n ≡ 0
  unfolding tally
  tally_zero zero z = refl
  tally_zero (suc n) z = omega (arith, z n (omega arith), tally_zero n (λ i h. z i (omega arith)))

  -- Beside another function's.
  module _ (g : ℕ → ℕ) where
    pub tally_same : (n : ℕ) → ((i : ℕ) → i < n → f i ≡ g i) → tally f n ≡ tally g n
    unfolding tally
    tally_same zero e = refl
    tally_same (suc n) e = ap₂ ◌+◌ (tally_same n (λ i h. e i (omega arith))) (e n (omega arith))

    -- Where no number is greater, the sum is not.
    pub tally_less : (n : ℕ) → ((i : ℕ) → i < n → f i ≤ g i) → tally f n ≤ tally g n
    unfolding tally
    tally_less zero e = omega arith
    tally_less (suc n) e = omega (arith, tally_less n (λ i h. e i (omega arith)), e n (omega arith))

    -- One of the numbers is another.
    pub tally_changed : (n i : ℕ) → i < n → ((x : ℕ) → x < n → x ≢ i → g x ≡ f x) → tally g n + f i ≡ tally f n + g i
    unfolding tally
    tally_changed zero i h o = absurd (omega arith)
    tally_changed (suc n) i h o =
        ⊎_elim
        (λ u. omega (arith, tally_changed n i u (λ x b. o x (omega arith)), o n (omega arith) (λ z. omega arith)))
        (λ z. omega (arith, ap f z, ap g z, tally_same n (λ x u. sym (o x (omega arith) (λ w. omega arith)))))
        (last_or n i h)

    -- It is one more.
    pub tally_one : (n i : ℕ) → i < n → g i ≡ f i + 1 → ((x : ℕ) → x < n → x ≢ i → g x ≡ f x) → tally g n ≡ tally f n + 1
    tally_one n i h e o = omega (arith, tally_changed n i h o)

-- The first number by itself.
pub tally_first : (f : ℕ → ℕ) (n : ℕ) → tally f (suc n) ≡ f 0 + tally (λ i. f (suc i)) n
unfolding tally
tally_first f zero = omega arith
tally_first f (suc n) = omega (arith, tally_first f n)

-- ---- The numbers of the parts

pub flat_length : (P : List (List ℕ)) → length (flat P) ≡ start_of P (length P)
flat_length [] = sym (tally_none (λ i. length (column [] i)))
flat_length (l ∷ P) =
    length-append l (flat P) ∙ ap (λ (n : ℕ). length l + n) (flat_length P) ∙ sym (tally_first (λ i. length (column (l ∷ P) i)) (length P))

module _ {m : ℕ} {P : List (List ℕ)} (C : Columns m P) where
  met_total : (j k : ℕ) → j < m → k ≤ length (column P j) → tally (λ r. length (met P r j k)) m ≡ tally (λ r. length (row_of P r j)) m + k
  met_total j zero h b = tally_same (λ r. length (met P r j 0)) (λ r. length (row_of P r j)) m (λ r u. ap length (met_none P r j)) ∙ sym (add-zero _)
  met_total j (suc k) h b =
      tally_one (λ r. length (met P r j k)) (λ r. length (met P r j (suc k))) m (at (column P j) k) ((C.rise j h).below k b)
      (ap length (on (at (column P j) k) ∙ met_here P (at (column P j) k) j k b (C.rise j h) refl) ∙ length-append (met P (at (column P j) k) j k) (j ∷ []))
      (λ r u n. ap length (on r ∙ met_other P r j k b n))
      ∙ ap (λ (n : ℕ). n + 1) (met_total j k h (omega arith))
      ∙ omega arith
    where
      on : (r : ℕ) → met P r j (suc k) ≡ met P r j (k + 1)
      on r = ap (met P r j) (sym (add-one k))

  -- The entries of the columns before column `j`, counted by rows.
  pub row_total : (j : ℕ) → j ≤ m → tally (λ r. length (row_of P r j)) m ≡ start_of P j
  unfolding tally numbers
  row_total zero h = tally_zero (λ r. 0) m (λ i u. refl)
  row_total (suc j) h =
      tally_same (λ r. length (row_of P r (suc j))) (λ r. length (met P r j (length (column P j)))) m (λ r u. ap length (ap (row_of P r) (sym (add-one j)) ∙ sym (met_all P r j)))
      ∙ met_total j (length (column P j)) h (omega arith)
      ∙ ap (λ (n : ℕ). n + length (column P j)) (row_total j (omega arith))

  -- The pattern turned has as many entries.
  pub turned_total : start_of (turned m P) m ≡ start_of P m
  turned_total =
      tally_same (λ r. length (column (turned m P) r)) (λ r. length (row_of P r m)) m (λ r h. ap length (turned_row m P r h)) ∙ row_total m (omega arith)
