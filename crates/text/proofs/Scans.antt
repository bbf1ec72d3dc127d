-- Bytes that are read one by one behind the word of a line. Rests on Spells.antt and Speaking.antt.
use mathlib.Core.List.{List, ◌++◌}
use mathlib.Core.Path.{◌≡◌, sym, ap, ◌∙◌, subst}
use Prim.Native.Nat.{ℕ, ◌+◌, ◌-◌, ◌≤◌, ◌<◌}
use native.Mathlib.Numerals.{add-one}
use native.Mathlib.Omega.{arith}
use lib.ListN.{length, take, drop, take-append-drop}
use lib.Seq.{take-suc, take_all, length-take-le}
use Rattle.pattern.specs.Places.{at}
use Rattle.std.specs.Prelude.{Some}
use Rattle.text.specs.Spelling.{Spelt, empty, wrong, with_byte, stand, passed}
use Rattle.text.specs.Text.{Speaks}
use Rattle.text.specs.declared.lines.Stand.{Stand}
use Rattle.text.proofs.Readings.{reads, reads_both, reads_one, reads_wrong, Ends}
use Rattle.text.proofs.Speaking.{speaks_read}
use Rattle.text.proofs.Spells.{spelt, ends_spelt, passed_few}

-- What the first `i` bytes spell.
abbrev pub scan : List ℕ → ℕ → Spelt
scan bytes i = reads empty (take i bytes)

module _ (bytes : List ℕ) (i : ℕ) where
  pub scan_more : i < length bytes → scan bytes (i + 1) ≡ with_byte (scan bytes i) (at bytes i)
  scan_more h = rw (add-one, take-suc bytes i 0 h) (reads_one empty (take i bytes) (at bytes i))

  -- Each number that the reader is past has taken two bytes at least.
  pub scan_few : (s : Stand) → Some s ≡ stand (scan bytes i) → i ≤ length bytes → passed s + passed s ≤ i - 1
  scan_few s e h =
      omega (arith, passed_few (scan bytes i) (take i bytes) s e (spelt (take i bytes)), length-take-le i bytes h)

  -- In a line that says numbers nothing that has been read is wrong.
  module _ {line word : List ℕ} (split : line ≡ word ++ bytes) (l : List ℕ) where
    pub scan_right : Speaks line word l → ¬ (scan bytes i ≡ wrong)
    scan_right p e =
        let all : reads empty bytes ≡ reads (scan bytes i) (drop i bytes) = ap (reads empty) (sym (take-append-drop i bytes)) ∙ reads_both empty (take i bytes) (drop i bytes) in
        subst (λ (y : Spelt). Ends y l) (all ∙ ap (λ (y : Spelt). reads y (drop i bytes)) e ∙ reads_wrong (drop i bytes)) (speaks_read bytes split p)

    -- At the end of the line, the line says what has been read and nothing else.
    module _ (end : length bytes ≤ i) where
      pub scan_end : Speaks line word l → Ends (scan bytes i) l
      scan_end p = subst (λ (t : List ℕ). Ends (reads empty t) l) (sym (take_all i bytes end)) (speaks_read bytes split p)

      pub scan_says : Ends (scan bytes i) l → Speaks line word l
      scan_says p =
          let q = ends_spelt l (scan bytes i) (take i bytes) p (spelt (take i bytes)) in
          record { is = split ∙ ap (λ (t : List ℕ). word ++ t) (sym (take_all i bytes end) ∙ q.0); small = q.1 }
