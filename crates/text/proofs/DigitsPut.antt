-- The digits of a number put from the last to the first. Rests on Decimals.antt and `listing`.
use mathlib.Core.List.{List, [], ◌∷◌, ◌++◌, append_assoc}
use mathlib.Core.Path.{◌≡◌, sym, ap, ◌∙◌}
use Prim.Native.Nat.{ℕ, ◌+◌, ◌-◌, ◌/◌, ◌%◌, ◌≤◌, ◌<◌}
use native.Mathlib.Decide.{dec_lt}
use native.Mathlib.Omega.{arith}
use lib.ListN.{length, set, length-append}
use Rattle.listing.specs.Held.{put}
use Rattle.listing.proofs.Puts.{put_front}
use Rattle.text.specs.Text.{decimal}
use Rattle.text.proofs.Decimals.{decimal_digit, decimal_more, decimal_longer, decimal_some}

-- The digits behind the decimal of `rest` have been put, from place `here` on.
pub record DigitsPut (n place : ℕ) (old : List ℕ) (here rest : ℕ) (new : List ℕ) : Type 0 where
  pub tail : List ℕ
  pub whole : decimal rest ++ tail ≡ decimal n
  pub front : here ≡ place + length (decimal rest)
  pub stand : new ≡ put here tail old

module _ {n place : ℕ} {old : List ℕ} {here rest : ℕ} {new : List ℕ} (d : DigitsPut n place old here rest new) where
  digits_room : here + length d.tail ≡ place + length (decimal n)
  digits_room = omega (arith, d.front, ap length d.whole, length-append (decimal rest) d.tail)

  module _ (room : place + length (decimal n) ≤ length old) where
    -- One digit more.
    set_front : (k v : ℕ) → here ≡ k + 1 → k < length old → set new k v ≡ put k (v ∷ d.tail) old
    set_front k v e h = ap (λ (l : List ℕ). set l k v) (d.stand ∙ ap (λ (i : ℕ). put i d.tail old) e) ∙ put_front k d.tail old v h

    pub digits_more : 10 ≤ rest → DigitsPut n place old (here - 1) (rest / 10) (set new (here - 1) (48 + rest % 10))
    digits_more h =
        record {
          tail = (48 + rest % 10) ∷ d.tail;
          whole =
              sym (append_assoc (decimal (rest / 10)) ((48 + rest % 10) ∷ []) d.tail)
              ∙ ap (λ (l : List ℕ). l ++ d.tail) (sym (decimal_more rest h))
              ∙ d.whole;
          front = omega (arith, d.front, decimal_longer rest h);
          stand = set_front (here - 1) (48 + rest % 10) (omega (arith, d.front, decimal_longer rest h)) (omega (arith, digits_room, d.front, decimal_longer rest h));
        }

    -- The first digit is put, and so all.
    pub digits_all : rest < 10 → set new (here - 1) (48 + rest % 10) ≡ put place (decimal n) old
    digits_all h =
        let one = decimal_digit rest h in
        let digit : rest % 10 ≡ rest = omega arith in
        let first : here - 1 ≡ place = omega (arith, d.front, ap length one) in
        ap (λ (v : ℕ). set new (here - 1) (48 + v)) digit
        ∙ ap (λ (k : ℕ). set new k (48 + rest)) first
        ∙ set_front place (48 + rest) (omega (arith, d.front, ap length one)) (omega (arith, digits_room, d.front, ap length one))
        ∙ ap (λ (l : List ℕ). put place l old) (ap (λ (l : List ℕ). l ++ d.tail) (sym one) ∙ d.whole)

-- Digits have been put from place `here` on: the last ones, or all.
pub record DigitsBehind (n place : ℕ) (old : List ℕ) (here rest : ℕ) (new : List ℕ) : Type 0 where
  pub from : place ≤ here
  pub some : place < here → DigitsPut n place old here rest new
  pub all : here ≡ place → new ≡ put place (decimal n) old

module _ {n place : ℕ} {old : List ℕ} {here rest : ℕ} {new : List ℕ} (b : DigitsBehind n place old here rest new) (h : place < here)
    (room : place + length (decimal n) ≤ length old) where
  pub digits_on : DigitsBehind n place old (here - 1) (rest / 10) (set new (here - 1) (48 + rest % 10))
  digits_on = go (dec_lt rest 10)
    where
      d : DigitsPut n place old here rest new
      d = b.some h

      go : Dec (rest < 10) → DigitsBehind n place old (here - 1) (rest / 10) (set new (here - 1) (48 + rest % 10))
      go (yes u) =
          record {
            from = omega arith;
            some = λ k. absurd (omega (arith, d.front, ap length (decimal_digit rest u)));
            all = λ e. digits_all d room u;
          }
      go (no u) =
          record {
            from = omega arith;
            some = λ k. digits_more d room (omega arith);
            all = λ e. absurd (omega (arith, d.front, decimal_longer rest (omega arith), decimal_some (rest / 10)));
          }
