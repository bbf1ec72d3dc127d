-- A number of one group or two: what it says, had from its bytes without a case for how many they are, and that one below 16,384 is such.
-- Rests on Numbers.antt and NumberBack.antt.
use mathlib.Core.Bool.{Bool, true, false, cond}
use mathlib.Core.List.{List, ◌∷◌, ◌++◌}
use mathlib.Core.Path.{◌≡◌, refl, ap, ap₂, ◌∙◌}
use Prim.Native.Nat.{ℕ, ◌+◌, ◌-◌, ◌*◌, ◌/◌, ◌%◌, ◌<◌, ◌≤◌}
use native.Mathlib.Decide.{dec_lt}
use native.Mathlib.Omega.{arith}
use lib.Dec.{eqb}
use lib.ListN.{length, drop}
use borrow.Author.Tests.{eqb-false}
use Rattle.pattern.specs.Places.{at}
use Rattle.sheet.specs.Number.{Bytes, got, number}
use Rattle.sheet.proofs.Numbers.{by_groups}
use Rattle.sheet.proofs.NumberBack.{Stands, stands, number_one, number_two, number_read}

-- ---- The number

module _ (bytes : List ℕ) (p : ℕ) where
  abbrev a : ℕ
  a = at bytes p

  abbrev b : ℕ
  b = at bytes (p + 1)

  -- The number that begins at `p` has one group, or two.
  pub record FewGroups : Type 0 where
    pub inside : p < length bytes
    pub more : 128 ≤ a → (p + 1 < length bytes) × (0 < b) × (b < 128)

  here : (q : ℕ) → q < length bytes → Stands bytes q (at bytes q) (drop (q + 1) bytes)
  here q h = record { inside = h; is = refl; rest = refl }

  one_read : FewGroups → a < 128 → number bytes p ≡ got a (p + 1)
  one_read f k = number_one bytes p (here p f.inside) k

  -- At the last byte there is one.
  pub last_read : FewGroups → p + 1 ≡ length bytes → number bytes p ≡ got a (p + 1)
  last_read f last = go (dec_lt a 128)
    where
      go : Dec (a < 128) → number bytes p ≡ got a (p + 1)
      go (yes k) = one_read f k
      go (no k) = absurd (omega (arith, (f.more (omega arith)).0))

  -- What they say, and the place after them.
  pub few_read : FewGroups → a < 256 → number bytes p ≡ got (a % 128 + 128 * b * (a / 128)) (p + 1 + a / 128)
  few_read f small = go (dec_lt a 128)
    where
      go : Dec (a < 128) → number bytes p ≡ got (a % 128 + 128 * b * (a / 128)) (p + 1 + a / 128)
      go (yes k) =
          let none : a / 128 ≡ 0 = omega arith in
          let value : a ≡ a % 128 + 128 * b * (a / 128) = rw none (omega arith) in
          let next : p + 1 ≡ p + 1 + a / 128 = omega arith in
          one_read f k ∙ ap₂ (λ (v n : ℕ). got v n) value next
      go (no k) =
          let t = f.more (omega arith) in
          let one : a / 128 ≡ 1 = omega arith in
          let value : a - 128 + 128 * b ≡ a % 128 + 128 * b * (a / 128) = rw one (omega arith) in
          let next : p + 2 ≡ p + 1 + a / 128 = omega arith in
          number_two bytes p (here p f.inside) (omega arith) (here (p + 1) t.0) t.2 t.1 ∙ ap₂ (λ (v n : ℕ). got v n) value next

  -- A number below 16,384 that was read has no third group.
  pub few_groups : Bytes bytes → {v next : ℕ} → number bytes p ≡ got v next → v < 16384 → FewGroups
  few_groups B {v} {next} e few =
      by_groups v (λ l. drop p bytes ≡ l ++ drop next bytes → FewGroups) one two (λ h. absurd (omega arith)) (number_read bytes p B e).on
    where
      one : v < 128 → drop p bytes ≡ v ∷ drop next bytes → FewGroups
      one h on = let s = stands bytes p v (drop next bytes) on in record { inside = s.inside; more = λ k. absurd (omega (arith, s.is)) }

      two : 128 ≤ v → v < 16384 → drop p bytes ≡ (128 + v % 128) ∷ (v / 128) ∷ drop next bytes → FewGroups
      two h k on =
          let s = stands bytes p (128 + v % 128) ((v / 128) ∷ drop next bytes) on in
          let t = stands bytes (p + 1) (v / 128) (drop next bytes) s.rest in
          record { inside = s.inside; more = λ _. (t.inside, omega (arith, t.is), omega (arith, t.is)) }

  -- So is one whose first byte has no high bit, or whose second byte can be the last group: where the product is zero.
  pub number_few : p + 1 < length bytes → a < 256 → b < 256 → a / 128 * cond (eqb b 0) 1 (b / 128) ≡ 0
      → number bytes p ≡ got (a % 128 + 128 * b * (a / 128)) (p + 1 + a / 128)
  number_few i small g e = few_read (record { inside = omega arith; more = more }) small
    where
      last : (t : Bool) → eqb b 0 ≡ t → cond t 1 (b / 128) ≡ 0 → (0 < b) × (b < 128)
      last true t z = absurd (omega arith)
      last false t z = (omega (arith, eqb-false b 0 t), omega arith)

      more : 128 ≤ a → (p + 1 < length bytes) × (0 < b) × (b < 128)
      more h =
          let bit : a / 128 ≡ 1 = omega arith in
          let l = last (eqb b 0) refl (omega (arith, e, ap (λ (n : ℕ). n * cond (eqb b 0) 1 (b / 128)) bit)) in
          (i, l.0, l.1)
