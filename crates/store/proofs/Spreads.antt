-- A number that joins some parts of a listing: which entries there are then, and the pass from the last of these parts to the
-- first that writes it. Rests on specs/Store.antt and Joins.antt.
use mathlib.Core.List.{List, [], ◌∷◌, ◌++◌, append_assoc}
use mathlib.Core.Logic.{◌⊎◌, inl, inr, ⊎_elim}
use mathlib.Core.Path.{◌≡◌, sym, ap, ap₂, ◌∙◌, subst}
use Prim.Native.Nat.{ℕ, zero, suc, ◌+◌, ◌≤◌, ◌<◌}
use native.Mathlib.Decide.{ℕ_discrete}
use native.Mathlib.Omega.{arith}
use lib.Dec.{T}
use lib.ListN.{length, take, drop, set}
use lib.Seq.{take-append-le, drop-append-le, take-append-add, drop-append-add}
use Rattle.pattern.specs.Flat.{flat, start_of}
use Rattle.pattern.specs.Pattern.{has, column, Entry}
use Rattle.pattern.specs.Rising.{Rising}
use Rattle.pattern.proofs.Clearing.{new_column, old_column, spiked_columns_rise}
use Rattle.pattern.proofs.Rises.{rising_tail, rising_after}
use Rattle.pattern.proofs.Tallies.{tally_none, tally_first, tally_one}
use Rattle.pattern.proofs.Tests.{has_cases, has_here, has_there}
use Rattle.pattern.proofs.Turning.{Columns, row_below}
use Rattle.store.specs.Store.{joined, spread}
use Rattle.store.proofs.Joins.{joined_rises, joined_has, has_joined, joined_length}

-- ---- The entries

module _ {m : ℕ} {P : List (List ℕ)} (C : Columns m P) (c : ℕ) (in_size : c < m) where
  pub spread_columns : (l : List ℕ) → Rising m l → Columns m (spread m c l P)
  spread_columns [] R = C
  spread_columns (k ∷ l) R = spiked_columns_rise (spread_columns l (rising_tail R)) (R.below 0 (omega arith)) (joined_rises m c (column (spread m c l P) k))

  -- They are those that there were, and `c` in each of the parts.
  pub spread_has : (l : List ℕ) → Rising m l → (y k : ℕ) → Entry (spread m c l P) y k → Entry P y k ⊎ ((y ≡ c) × T (has l k))
  spread_has [] R y k t = inl t
  spread_has (x ∷ l) R y k t = go (ℕ_discrete k x) (λ u. spread_has l (rising_tail R) y k u)
    where
      Q : List (List ℕ)
      Q = spread m c l P

      there : Entry P y k ⊎ ((y ≡ c) × T (has l k)) → Entry P y k ⊎ ((y ≡ c) × T (has (x ∷ l) k))
      there d = ⊎_elim inl (λ p. inr (p.0, has_there x k l p.1)) d

      go : Dec (k ≡ x) → (Entry Q y k → Entry P y k ⊎ ((y ≡ c) × T (has l k))) → Entry P y k ⊎ ((y ≡ c) × T (has (x ∷ l) k))
      go (yes e) f =
          let n = new_column Q x (joined m c (column Q x)) (omega (arith, (spread_columns l (rising_tail R)).size, R.below 0 (omega arith))) in
          ⊎_elim
          (λ z. inr (z, has_here x k l (sym e)))
          (λ u. there (f (subst (λ (i : ℕ). T (has (column Q i) y)) (sym e) u)))
          (joined_has m c (column Q x) y (subst (λ (j : List ℕ). T (has j y)) (ap (column (spread m c (x ∷ l) P)) e ∙ n) t))
      go (no n) f = there (f (subst (λ (j : List ℕ). T (has j y)) (old_column Q x (joined m c (column Q x)) k n) t))

  pub has_spread : (l : List ℕ) → Rising m l → (y k : ℕ) → Entry P y k ⊎ ((y ≡ c) × T (has l k)) → Entry (spread m c l P) y k
  has_spread [] R y k d = ⊎_elim (λ t. t) (λ p. absurd p.1) d
  has_spread (x ∷ l) R y k d = go (ℕ_discrete k x) (λ u. has_spread l (rising_tail R) y k u)
    where
      Q : List (List ℕ)
      Q = spread m c l P

      low : Entry P y k ⊎ ((y ≡ c) × T (has (x ∷ l) k)) → y < m
      low (inl t) = row_below C y k t
      low (inr p) = omega (arith, p.0)

      -- Unless it is `c` in part `x`, it was there before that part was joined.
      later : Entry P y k ⊎ ((y ≡ c) × T (has (x ∷ l) k)) → ((y ≡ c) × (x ≡ k)) ⊎ (Entry P y k ⊎ ((y ≡ c) × T (has l k)))
      later (inl t) = inr (inl t)
      later (inr p) = ⊎_elim (λ e. inl (p.0, e)) (λ u. inr (inr (p.0, u))) (has_cases x k l p.1)

      go : Dec (k ≡ x) → (Entry P y k ⊎ ((y ≡ c) × T (has l k)) → Entry Q y k) → Entry (spread m c (x ∷ l) P) y k
      go (yes e) f =
          let n = new_column Q x (joined m c (column Q x)) (omega (arith, (spread_columns l (rising_tail R)).size, R.below 0 (omega arith))) in
          subst (λ (j : List ℕ). T (has j y)) (sym (ap (column (spread m c (x ∷ l) P)) e ∙ n))
          (has_joined m c (column Q x) y (low d) (⊎_elim (λ p. inl p.0) (λ u. inr (subst (λ (i : ℕ). T (has (column Q i) y)) e (f u))) (later d)))
      go (no n) f =
          subst (λ (j : List ℕ). T (has j y)) (sym (old_column Q x (joined m c (column Q x)) k n))
          (⊎_elim (λ p. absurd (n (sym p.1))) f (later d))

-- ---- One part

-- Where one part is one longer, the starts past its own are one more.
module _ (P : List (List ℕ)) (k : ℕ) (new : List ℕ) where
  pub start_more : k < length P → length new ≡ length (column P k) + 1 → (j : ℕ) → k < j → start_of (set P k new) j ≡ start_of P j + 1
  start_more h e j u =
      tally_one (λ i. length (column P i)) (λ i. length (column (set P k new) i)) j k u (ap length (new_column P k new h) ∙ e)
      (λ i b n. ap length (old_column P k new i n))

-- One number more, in front of place `x` of part `k`.
pub flat_more_in : (P : List (List ℕ)) (k x c : ℕ) → k < length P → x ≤ length (column P k)
    → let q = start_of P k + x in flat (set P k (take x (column P k) ++ (c ∷ drop x (column P k)))) ≡ take q (flat P) ++ (c ∷ drop q (flat P))
flat_more_in [] k x c h b = absurd (omega arith)
flat_more_in (l ∷ P) zero x c h b =
    let e : start_of (l ∷ P) 0 + x ≡ x = omega (arith, tally_none (λ i. length (column (l ∷ P) i))) in
    append_assoc (take x l) (c ∷ drop x l) (flat P)
    ∙ ap₂ (λ (i j : List ℕ). i ++ (c ∷ j)) (sym (take-append-le x l (flat P) b)) (sym (drop-append-le x l (flat P) b))
    ∙ ap (λ (q : ℕ). take q (l ++ flat P) ++ (c ∷ drop q (l ++ flat P))) (sym e)
flat_more_in (l ∷ P) (suc k) x c h b =
    let q : ℕ = start_of P k + x in
    let e : start_of (l ∷ P) (suc k) + x ≡ length l + q = omega (arith, tally_first (λ i. length (column (l ∷ P) i)) k) in
    ap (λ (j : List ℕ). l ++ j) (flat_more_in P k x c (omega arith) b)
    ∙ sym (append_assoc l (take q (flat P)) (c ∷ drop q (flat P)))
    ∙ ap₂ (λ (i j : List ℕ). i ++ (c ∷ j)) (sym (take-append-add l (flat P) q)) (sym (drop-append-add l (flat P) q))
    ∙ ap (λ (q : ℕ). take q (l ++ flat P) ++ (c ∷ drop q (l ++ flat P))) (sym e)

-- ---- How many entries

module _ {m : ℕ} {P : List (List ℕ)} (C : Columns m P) (c : ℕ) (in_size : c < m) (none : (k : ℕ) → ¬ Entry P c k) where
  -- A part that is not named has not got it.
  spread_none : (k : ℕ) (l : List ℕ) → Rising m (k ∷ l) → ¬ Entry (spread m c l P) c k
  spread_none k l R t = ⊎_elim (λ u. none k u) (λ p. omega (arith, rising_after R k p.1)) (spread_has C c in_size l (rising_tail R) c k t)

  pub spread_total : (l : List ℕ) → Rising m l → start_of (spread m c l P) m ≡ start_of P m + length l
  spread_total [] R = omega arith
  spread_total (k ∷ l) R =
      let D = spread_columns C c in_size l (rising_tail R) in
      let Q = spread m c l P in
      let b : k < m = R.below 0 (omega arith) in
      omega (
        arith,
        spread_total l (rising_tail R),
        start_more Q k (joined m c (column Q k)) (omega (arith, D.size)) (joined_length (D.rise k b) in_size (spread_none k l R)) m b,
      )
