-- How many of the first numbers are in a set: one number more, and what a count of some or of two tells. Rests on specs/Sets.antt
-- and `pattern`.
use mathlib.Core.Bool.{Bool, true, false}
use mathlib.Core.Path.{◌≡◌, refl, ap, ◌∙◌}
use Prim.Native.Nat.{ℕ, zero, suc, ◌+◌, ◌<◌}
use native.Mathlib.Omega.{arith}
use lib.Dec.{T}
use Rattle.pattern.specs.Series.{tally}
use Rattle.pattern.proofs.Tallies.{tally_none, tally_next, tally_more}
use Rattle.pattern.proofs.Tests.{true_T, T_true}
use Rattle.judge.specs.Sets.{one, counted}

module _ (p : ℕ → Bool) where
  pub counted_zero : counted p 0 ≡ 0
  counted_zero = tally_none (λ k. one (p k))

  pub counted_yes : (k : ℕ) → p k ≡ true → counted p (k + 1) ≡ counted p k + 1
  counted_yes k e = tally_next (λ i. one (p i)) k ∙ ap (λ (b : Bool). counted p k + one b) e

  pub counted_no : (k : ℕ) → p k ≡ false → counted p (k + 1) ≡ counted p k
  counted_no k e = omega (arith, tally_next (λ i. one (p i)) k, ap one e)

  pub counted_some : (n : ℕ) → 0 < counted p n → (k : ℕ) × (k < n) × T (p k)
  unfolding tally
  counted_some zero h = absurd (omega arith)
  counted_some (suc n) h = go (p n) refl (counted_some n)
    where
      go : (b : Bool) → p n ≡ b → (0 < counted p n → (k : ℕ) × (k < n) × T (p k)) → (k : ℕ) × (k < suc n) × T (p k)
      go true e f = (n, omega arith, true_T e)
      go false e f = let a = f (omega (arith, ap one e)) in (a.0, omega (arith, a.1), a.2)

  pub counted_two : (n : ℕ) → 1 < counted p n → (i : ℕ) × (j : ℕ) × (i < j) × (j < n) × T (p i) × T (p j)
  unfolding tally
  counted_two zero h = absurd (omega arith)
  counted_two (suc n) h = go (p n) refl (counted_two n)
    where
      go : (b : Bool) → p n ≡ b → (1 < counted p n → (i : ℕ) × (j : ℕ) × (i < j) × (j < n) × T (p i) × T (p j))
          → (i : ℕ) × (j : ℕ) × (i < j) × (j < suc n) × T (p i) × T (p j)
      go true e f = let a = counted_some n (omega (arith, ap one e)) in (a.0, n, omega (arith, a.1), omega arith, a.2, true_T e)
      go false e f = let a = f (omega (arith, ap one e)) in (a.0, a.1, a.2, omega (arith, a.3), a.4, a.5)

  -- A number of the set is counted.
  pub some_counted : (n k : ℕ) → k < n → T (p k) → 0 < counted p n
  some_counted n k h t =
      omega (arith, counted_yes k (T_true (p k) t), tally_more (λ i. one (p i)) (k + 1) n (omega arith))
