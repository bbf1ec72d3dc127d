-- The seven-bit number: its groups, and what is read at a place of a list of bytes. Rests on `pattern`.
use Rattle.std.specs.Prelude.{cond, List, [], ◌∷◌, ◌≡◌, ℕ, ◌+◌, ◌-◌, ◌*◌, ◌/◌, ◌%◌, ◌≤◌, ◌<◌, eqb, ltb, length}
use Rattle.pattern.specs.Places.{at}

-- The greatest number of three groups.
abbrev pub max_number : ℕ
max_number = 2097151

-- The groups of a number up to that, in shortest form: seven bits each, the lowest first, and the high bit, 128, set on every
-- group but the last.
unfoldable pub groups : ℕ → List ℕ
groups n =
    cond (ltb n 128) (n ∷ [])
    (cond (ltb n 16384) ((128 + n % 128) ∷ (n / 128) ∷ [])
    ((128 + n % 128) ∷ (128 + n / 128 % 128) ∷ (n / 16384) ∷ []))

-- A list of bytes: each number is below 256.
abbrev pub Bytes : List ℕ → Type 0
Bytes l = (i : ℕ) → i < length l → at l i < 256

-- What groups say, the lowest first: each counts by its seven low bits, and each next one 128 times as much.
unfoldable pub weighed : List ℕ → ℕ
weighed [] = 0
weighed (g ∷ l) = g % 128 + 128 * weighed l

-- The form of a number: one to three bytes, and the high bit set on every one but the last.
pub record Grouped (l : List ℕ) : Type 0 where
  pub some : 1 ≤ length l
  pub few : length l ≤ 3
  pub bytes : Bytes l
  pub more : (i : ℕ) → i + 1 < length l → 128 ≤ at l i
  pub last : (i : ℕ) → i + 1 ≡ length l → at l i < 128

-- What is read: a thing and the place after it, or a refusal by its number with the place at which the number at fault begins.
pub data Read (A : Type 0) : Type 0 where
  got : (thing : A) (next : ℕ) → Read A
  bad : (reply place : ℕ) → Read A

-- The byte at place `q` of the number that begins at place `p`: 9 where the bytes end before it.
unfoldable pub byte : (bytes : List ℕ) (p q : ℕ) → (ℕ → Read ℕ) → Read ℕ
byte bytes p q go_on = cond (ltb q (length bytes)) (go_on (at bytes q)) (bad 9 p)

-- A second or third group ends the number that begins at place `p`: 10 where it is zero.
unfoldable pub ended : (p group value next : ℕ) → Read ℕ
ended p group value next = cond (eqb group 0) (bad 10 p) (got value next)

-- The number that begins at place `p`: a group that has the high bit set is followed by another, and a third that has it is 10.
unfoldable pub number : (bytes : List ℕ) (p : ℕ) → Read ℕ
number bytes p =
    byte bytes p p (λ a.
    cond (ltb a 128) (got a (p + 1))
    (byte bytes p (p + 1) (λ b.
    cond (ltb b 128) (ended p b (a - 128 + 128 * b) (p + 2))
    (byte bytes p (p + 2) (λ c.
    cond (ltb c 128) (ended p c (a - 128 + 128 * (b - 128) + 16384 * c) (p + 3))
    (bad 10 p))))))
