-- The text of a line: a word, and numbers in plain decimals, each after a single space. Rests on
-- Series.antt and `pattern`.
use Rattle.std.specs.Prelude.{cond, List, [], ◌∷◌, ◌++◌, ◌≡◌, ℕ, zero, suc, ◌+◌, ◌/◌, ◌%◌, ◌≤◌, ◌<◌, ltb, length}
use Rattle.pattern.specs.Places.{at}
use Rattle.text.specs.Series.{series}

-- The byte that ends a line, and that before a number.
abbrev pub LF : ℕ
LF = 10

abbrev pub space : ℕ
space = 32

-- The greatest number of a line, and the greatest length of one without its LF.
abbrev pub max_number : ℕ
max_number = 65535

abbrev pub max_line : ℕ
max_line = 8000

-- A line has no more numbers.
abbrev pub max_numbers : ℕ
max_numbers = 4000

-- The greatest number of a line that can be counted.
abbrev pub max_count : ℕ
max_count = 18446744073709551615

-- ---- Numbers

-- The last digits of a number, at most so many.
unfoldable pub digits : (most n : ℕ) → List ℕ
digits zero n = []
digits (suc most) n = cond (ltb n 10) ((48 + n) ∷ []) (digits most (n / 10) ++ ((48 + n % 10) ∷ []))

-- A number as a plain decimal: its digit where it is below 10, else the decimal of its tenth part and its last digit. It has fewer
-- digits than `suc n`, and no leading zeros.
unfoldable pub decimal : ℕ → List ℕ
decimal n = digits (suc n) n

-- Numbers, each after a space. (What a series carries along has no part in it.)
abbrev pub carried : {A : Type 0} → ℕ → A → ℕ
carried s x = s

abbrev pub spaced_number : ℕ → ℕ → List ℕ
spaced_number s n = space ∷ decimal n

abbrev pub spaced : List ℕ → List ℕ
spaced = series spaced_number carried 0

-- ---- Lines

-- No number is over 65,535.
abbrev pub Small : List ℕ → Type 0
Small l = (i : ℕ) → i < length l → at l i ≤ max_number

-- The line, without its LF, is the word and the numbers, and no number is over 65,535.
pub record Speaks (line word numbers : List ℕ) : Type 0 where
  pub is : line ≡ word ++ spaced numbers
  pub small : Small numbers
