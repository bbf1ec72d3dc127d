-- Plain decimals: a digit, one digit more, and how many there are. Rests on specs/Text.antt.
use mathlib.Core.List.{List, [], ◌∷◌, ◌++◌}
use mathlib.Core.Path.{◌≡◌, sym, ap, ap₂, ◌∙◌}
use Prim.Native.Nat.{ℕ, zero, suc, ◌+◌, ◌*◌, ◌/◌, ◌%◌, ◌≤◌, ◌<◌}
use native.Mathlib.Decide.{dec_lt}
use native.Mathlib.Omega.{arith}
use lib.ListN.{length, length-append}
use borrow.Author.Tests.{lt-ltb, le-ltb}
use Rattle.text.specs.Text.{digits, decimal}

-- One turn.
digits_one : (f n : ℕ) → n < 10 → digits (suc f) n ≡ (48 + n) ∷ []
unfolding digits
digits_one f n h = rw (lt-ltb n 10 h)

digits_more : (f n : ℕ) → 10 ≤ n → digits (suc f) n ≡ digits f (n / 10) ++ ((48 + n % 10) ∷ [])
unfolding digits
digits_more f n h = rw (le-ltb n 10 h)

-- More turns than the number has digits make no difference.
digits_enough : (f g n : ℕ) → n < f → n < g → Dec (n < 10) → digits f n ≡ digits g n
digits_enough zero g n h k d = absurd (omega arith)
digits_enough (suc f) zero n h k d = absurd (omega arith)
digits_enough (suc f) (suc g) n h k (yes u) = digits_one f n u ∙ sym (digits_one g n u)
digits_enough (suc f) (suc g) n h k (no u) =
    digits_more f n (omega arith)
    ∙ ap (λ (l : List ℕ). l ++ ((48 + n % 10) ∷ [])) (digits_enough f g (n / 10) (omega arith) (omega arith) (dec_lt (n / 10) 10))
    ∙ sym (digits_more g n (omega arith))

-- Below 10, the digit.
pub decimal_digit : (n : ℕ) → n < 10 → decimal n ≡ (48 + n) ∷ []
unfolding decimal
decimal_digit n h = digits_one n n h

-- From 10 on, the decimal of the tenth part and the last digit.
pub decimal_more : (n : ℕ) → 10 ≤ n → decimal n ≡ decimal (n / 10) ++ ((48 + n % 10) ∷ [])
unfolding decimal
decimal_more n h =
    digits_more n n h ∙ ap (λ (l : List ℕ). l ++ ((48 + n % 10) ∷ [])) (digits_enough n (suc (n / 10)) (n / 10) (omega arith) (omega arith) (dec_lt (n / 10) 10))

-- One digit more behind a number that is not 0.
pub decimal_next : (v d : ℕ) → 1 ≤ v → d < 10 → decimal (10 * v + d) ≡ decimal v ++ ((48 + d) ∷ [])
decimal_next v d h k =
    let q : (10 * v + d) / 10 ≡ v = omega arith in
    let r : (10 * v + d) % 10 ≡ d = omega arith in
    decimal_more (10 * v + d) (omega arith) ∙ ap₂ (λ (n m : ℕ). decimal n ++ ((48 + m) ∷ [])) q r

-- How many digits there are.
pub decimal_longer : (n : ℕ) → 10 ≤ n → length (decimal n) ≡ length (decimal (n / 10)) + 1
decimal_longer n h = ap length (decimal_more n h) ∙ length-append (decimal (n / 10)) ((48 + n % 10) ∷ [])

pub decimal_some : (n : ℕ) → 1 ≤ length (decimal n)
decimal_some n = go (dec_lt n 10)
  where
    go : Dec (n < 10) → 1 ≤ length (decimal n)
    go (yes u) = omega (arith, ap length (decimal_digit n u))
    go (no u) = omega (arith, decimal_longer n (omega arith))

-- Ten, a hundred, and so on.
unfoldable tens : ℕ → ℕ
tens zero = 10
tens (suc k) = 10 * tens k

-- A number below 10 has one digit, one below 100 two at most, and so on.
few : (k n : ℕ) → n < tens k → Dec (n < 10) → length (decimal n) ≤ suc k
unfolding tens
few zero n h d = omega (arith, ap length (decimal_digit n h))
few (suc k) n h (yes u) = omega (arith, ap length (decimal_digit n u))
few (suc k) n h (no u) = omega (arith, decimal_longer n (omega arith), few k (n / 10) (omega arith) (dec_lt (n / 10) 10))

-- A 16-bit number has five digits at most, and a 64-bit number twenty.
pub decimal_five : (n : ℕ) → n ≤ 65535 → length (decimal n) ≤ 5
unfolding tens
decimal_five n h = few 4 n (omega arith) (dec_lt n 10)

pub decimal_twenty : (n : ℕ) → n ≤ 18446744073709551615 → length (decimal n) ≤ 20
unfolding tens
decimal_twenty n h = few 19 n (omega arith) (dec_lt n 10)
