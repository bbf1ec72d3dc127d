-- One byte more behind what is spelt: the cases, and a space and a digit by themselves. Rests on specs/Spelling.antt.
use mathlib.Core.List.{List}
use mathlib.Core.Path.{◌≡◌, refl, sym, ap, ◌∙◌, subst}
use Prim.Native.Nat.{ℕ, ◌+◌, ◌-◌, ◌*◌, ◌≤◌, ◌<◌}
use native.Mathlib.Decide.{dec_lt, ℕ_discrete}
use native.Mathlib.Omega.{arith}
use borrow.Author.Tests.{lt-ltb, le-ltb, eq-eqb, ne_eqb}
use Rattle.text.specs.Spelling.{Spelt, inside, wrong, with_space, with_digit, with_byte}
use Rattle.text.specs.Text.{space, max_number}

-- A space.
pub space_more : (x : Spelt) → with_byte x space ≡ with_space x
unfolding with_byte
space_more x = refl

module _ (x : Spelt) where
  -- A digit.
  pub digit_more : (d : ℕ) → d < 10 → with_byte x (48 + d) ≡ with_digit x d
  unfolding with_byte
  digit_more d h =
      let e : 48 + d - 48 ≡ d = omega arith in
      rw (ne_eqb (48 + d) space (λ u. omega arith), le-ltb (48 + d) 48 (omega arith), le-ltb 57 (48 + d) (omega arith)) (ap (with_digit x) e)

  -- What is neither.
  pub below_wrong : (b : ℕ) → ¬ (b ≡ space) → b < 48 → with_byte x b ≡ wrong
  unfolding with_byte
  below_wrong b h k = rw (ne_eqb b space h, lt-ltb b 48 k)

  pub above_wrong : (b : ℕ) → 57 < b → with_byte x b ≡ wrong
  unfolding with_byte
  above_wrong b h = rw (ne_eqb b space (λ u. omega arith), le-ltb b 48 (omega arith), lt-ltb 57 b h)

  -- What holds behind a space, behind a digit and of what is wrong holds behind any byte.
  pub byte_cases : (P : Spelt → Type 0) (b : ℕ) → (b ≡ space → P (with_space x)) → ((d : ℕ) → d < 10 → b ≡ 48 + d → P (with_digit x d)) → P wrong → P (with_byte x b)
  byte_cases P b at-space at-digit at_wrong = go (ℕ_discrete b space) (dec_lt b 48) (dec_lt 57 b)
    where
      go : Dec (b ≡ space) → Dec (b < 48) → Dec (57 < b) → P (with_byte x b)
      go (yes e) t u = subst P (sym (ap (with_byte x) e ∙ space_more x)) (at-space e)
      go (no n) (yes t) u = subst P (sym (below_wrong b n t)) at_wrong
      go (no n) (no t) (yes u) = subst P (sym (above_wrong b u)) at_wrong
      go (no n) (no t) (no u) =
          let e : b ≡ 48 + (b - 48) = omega arith in
          subst P (sym (ap (with_byte x) e ∙ digit_more (b - 48) (omega arith))) (at-digit (b - 48) (omega arith) e)

-- What is wrong stays wrong.
pub wrong_more : (b : ℕ) → with_byte wrong b ≡ wrong
wrong_more b = byte_cases wrong (λ x. x ≡ wrong) b (λ e. refl) (λ d h e. refl) refl

-- A digit inside a number.
module _ (l : List ℕ) (v d : ℕ) where
  pub number_more : 1 ≤ v → 10 * v + d ≤ max_number → with_digit (inside l v) d ≡ inside l (10 * v + d)
  number_more h k = rw (ne_eqb v 0 (λ u. omega arith), le-ltb max_number (10 * v + d) k)

  pub zero_wrong : v ≡ 0 → with_digit (inside l v) d ≡ wrong
  zero_wrong h = rw (eq-eqb v 0 h)

  pub great_wrong : 1 ≤ v → max_number < 10 * v + d → with_digit (inside l v) d ≡ wrong
  great_wrong h k = rw (ne_eqb v 0 (λ u. omega arith), lt-ltb max_number (10 * v + d) k)

  pub number_cases : (P : Spelt → Type 0) → (1 ≤ v → 10 * v + d ≤ max_number → P (inside l (10 * v + d))) → P wrong → P (with_digit (inside l v) d)
  number_cases P at_more at_wrong = go (dec_lt 0 v) (dec_lt max_number (10 * v + d))
    where
      go : Dec (0 < v) → Dec (max_number < 10 * v + d) → P (with_digit (inside l v) d)
      go (yes h) (no k) = subst P (sym (number_more h (omega arith))) (at_more h (omega arith))
      go (yes h) (yes k) = subst P (sym (great_wrong h k)) at_wrong
      go (no h) k = subst P (sym (zero_wrong (omega arith))) at_wrong
