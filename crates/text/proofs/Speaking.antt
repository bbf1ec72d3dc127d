-- What a line says after a word: one list of numbers at most, and one that is half as long at most. Rests on Readings.antt.
use mathlib.Core.List.{List, [], ◌++◌, append_cancel_left}
use mathlib.Core.Path.{◌≡◌, refl, sym, ap, ◌∙◌, subst}
use Prim.Native.Nat.{ℕ, ◌+◌, ◌≤◌}
use native.Mathlib.Omega.{arith}
use lib.ListN.{length, take, length-append}
use lib.Seq.{take-append_seam}
use Rattle.text.specs.Heard.{SaysSome}
use Rattle.text.specs.Spelling.{empty}
use Rattle.text.specs.Text.{spaced, Speaks}
use Rattle.text.proofs.Readings.{reads, Ends, ends_one, reads_spaced}
use Rattle.text.proofs.SpacedLaws.{spaced_long}

-- The line begins with the word.
pub speaks_begins : (line word : List ℕ) → SaysSome word line → take (length word) line ≡ word
speaks_begins line word p = ap (take (length word)) p.1.is ∙ take-append_seam word (spaced p.0)

-- The bytes behind the word are read as the numbers.
pub speaks_read : {line word l : List ℕ} (bytes : List ℕ) → line ≡ word ++ bytes → Speaks line word l → Ends (reads empty bytes) l
speaks_read {line} {word} {l} bytes e s =
    subst (λ (t : List ℕ). Ends (reads empty t) l) (append_cancel_left word (spaced l) bytes (sym s.is ∙ e)) (reads_spaced empty [] l refl s.small)

pub speaks_one : {line word l l' : List ℕ} → Speaks line word l → Speaks line word l' → l ≡ l'
speaks_one {l = l} s s' = ends_one (reads empty (spaced l)) (speaks_read (spaced l) s.is s) (speaks_read (spaced l) s.is s')

pub speaks_few : {line word l : List ℕ} → Speaks line word l → length word + length l + length l ≤ length line
speaks_few {line} {word} {l} s = omega (arith, ap length s.is, length-append word (spaced l), spaced_long l)
