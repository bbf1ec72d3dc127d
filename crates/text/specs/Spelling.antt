-- What the bytes behind a word spell, read one by one, for the contracts of the steps of `lines`. Rests on Text.antt.
use Rattle.std.specs.Prelude.{cond, List, [], ◌∷◌, ◌++◌, ℕ, ◌+◌, ◌-◌, ◌*◌, eqb, ltb, length, set, Option, Some, None}
use Rattle.text.specs.Text.{space, max_number}
use Rattle.text.specs.declared.lines.Stand.{Stand}
use Rattle.text.specs.declared.lines.Stand.TheVariants.{Word, Gap, Inside}

-- What they spell: nothing; numbers and a space behind them; numbers and behind them one that may go on; or what no line of numbers
-- begins with.
pub data Spelt : Type 0 where
  empty : Spelt
  gap : (numbers : List ℕ) → Spelt
  inside : (before : List ℕ) (value : ℕ) → Spelt
  wrong : Spelt

-- With a space behind it.
abbrev pub with_space : Spelt → Spelt
with_space empty = gap []
with_space (gap l) = wrong
with_space (inside l v) = gap (l ++ (v ∷ []))
with_space wrong = wrong

-- With a digit behind it: a number has no leading zero and is not over 65,535.
abbrev pub with_digit : Spelt → ℕ → Spelt
with_digit empty d = wrong
with_digit (gap l) d = inside l d
with_digit (inside l v) d = cond (eqb v 0) wrong (cond (ltb max_number (10 * v + d)) wrong (inside l (10 * v + d)))
with_digit wrong d = wrong

-- With a byte behind it.
unfoldable pub with_byte : Spelt → ℕ → Spelt
with_byte x b = cond (eqb b space) (with_space x) (cond (ltb b 48) wrong (cond (ltb 57 b) wrong (with_digit x (b - 48))))

-- How a reader of a line stands behind it, where numbers may begin so.
abbrev pub stand : Spelt → Option Stand
stand empty = Some Word
stand (gap l) = Some (Gap (length l))
stand (inside l v) = Some (Inside (length l) v)
stand wrong = None

-- How many numbers that reader has behind it.
abbrev pub passed : Stand → ℕ
passed Word = 0
passed (Gap count) = count
passed (Inside before value) = before

-- The first number, where the reader stands inside it; else the number that is given for it.
abbrev pub first_at : Stand → ℕ → ℕ
first_at Word first = first
first_at (Gap count) first = first
first_at (Inside before value) first = cond (eqb before 0) value first

-- A list in which the number is stored inside which the reader stands.
abbrev pub stored_at : Stand → List ℕ → List ℕ
stored_at Word l = l
stored_at (Gap count) l = l
stored_at (Inside before value) l = set l before value
