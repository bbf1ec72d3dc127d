-- The numbers that a line leaves in the list of numbers, for any word: how many they are, and the part behind the first. Rests on
-- Speaking.antt and `listing`.
use mathlib.Core.List.{List, ◌∷◌}
use mathlib.Core.Path.{◌≡◌, ap, ◌∙◌}
use Prim.Native.Nat.{ℕ, ◌-◌, ◌≤◌}
use native.Mathlib.Omega.{arith}
use lib.ListN.{length, take, drop}
use lib.Seq.{take_at}
use Rattle.listing.specs.Held.{over}
use Rattle.text.specs.Text.{max_line, max_numbers, Speaks}
use Rattle.text.proofs.Speaking.{speaks_few}

-- A line has no room for more.
pub kept_few : {line word l : List ℕ} → length line ≤ max_line → Speaks line word l → length l ≤ max_numbers
kept_few h s = omega (arith, speaks_few s)

-- Behind the first number.
pub kept_rows : (first : ℕ) (rows old : List ℕ) {numbers : List ℕ} {count : ℕ} → numbers ≡ over (first ∷ rows) old → count ≡ length (first ∷ rows)
    → take (count - 1) (drop 1 numbers) ≡ rows
kept_rows first rows old {numbers} {count} e n =
    ap (λ (l : List ℕ). take (count - 1) (drop 1 l)) e ∙ take_at rows (drop (length (first ∷ rows)) old) (count - 1) (omega arith)
