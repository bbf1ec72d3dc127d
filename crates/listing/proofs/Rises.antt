-- A list rises where each number is below the next and the last is below the bound; then none stands twice. Rests on `pattern`.
use Rattle.std.specs.List.{IsAllAdjacentAnswer}
use mathlib.Core.Bool.{Bool, true, false}
use mathlib.Core.List.{List}
use mathlib.Core.Path.{◌≡◌, sym, ap, subst}
use Prim.Native.Nat.{ℕ, suc, ◌+◌, ◌-◌, ◌≤◌, ◌<◌}
use native.Mathlib.Decide.{ℕ_discrete, dec_lt}
use native.Mathlib.Numerals.{add-one}
use native.Mathlib.Omega.{arith}
use lib.Dec.{ltb}
use lib.ListN.{length}
use borrow.Author.Tests.{ltb-true, ltb-false}
use Rattle.pattern.specs.Places.{at, Once}
use Rattle.pattern.specs.Rising.{Rising}
use Rattle.pattern.proofs.Climbing.{climbs}
use Rattle.pattern.proofs.Once.{too_many}
use Rattle.pattern.proofs.Rises.{rising_less}
use Rattle.listing.specs.Says.{Says}
use Rattle.listing.proofs.Answers.{told_yes, told_no}

pub rising_last : {m : ℕ} (l : List ℕ) → ((i : ℕ) → i + 1 < length l → at l i < at l (i + 1)) → at l (length l - 1) < m → Rising m l
rising_last l up h =
    record {
      below = λ i k. omega (arith, climbs (at l) (length l - 1) (λ x u. omega (arith, up x (omega arith))) i (length l - 1) (omega arith) (omega arith));
      rises = λ i k. subst (λ (n : ℕ). at l i < at l n) (add-one i) (up i (omega arith));
    }

-- An answer about neighbours, where the last number is below the bound.
pub rising_told : {m : ℕ} {r : Bool} (l : List ℕ) → at l (length l - 1) < m → IsAllAdjacentAnswer (λ x y b. b ≡ ltb x y) l r → Says r (Rising m l)
rising_told {r = true} l h up = told_yes (rising_last l (λ i b. ltb-true (at l i) (at l (i + 1)) (sym (up i 0 b))) h)
rising_told {r = false} l h (k, b, e) =
    let z : suc k ≡ k + 1 = omega arith in
    told_no (λ s. omega (arith, s.rises k (omega arith), ap (at l) z, ltb-false (at l k) (at l (k + 1)) (sym (e 0))))

-- Numbers below a bound are below a greater one.
pub rising_within : {m n : ℕ} {l : List ℕ} → m ≤ n → Rising m l → Rising n l
rising_within h R = record { below = λ i b. omega (arith, R.below i b); rises = R.rises }

-- No number stands twice, so there are at most `m`.
module _ {m : ℕ} {l : List ℕ} (R : Rising m l) where
  pub rising_once : Once (at l) (length l) m
  rising_once = record { below = R.below; once = λ i j hi hj e. go i j hi hj e (ℕ_discrete i j) (dec_lt i j) }
    where
      go : (i j : ℕ) → i < length l → j < length l → at l i ≡ at l j → Dec (i ≡ j) → Dec (i < j) → i ≡ j
      go i j hi hj e (yes z) d = z
      go i j hi hj e (no z) (yes h) = absurd (omega (arith, rising_less R i j h hj))
      go i j hi hj e (no z) (no h) = absurd (omega (arith, rising_less R j i (omega arith) hi))

  pub rising_few : length l ≤ m
  rising_few = go (dec_lt m (length l))
    where
      go : Dec (m < length l) → length l ≤ m
      go (yes h) = absurd (too_many h rising_once)
      go (no h) = omega arith
