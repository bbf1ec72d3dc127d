-- Things one after another: what was read stands in the bytes as it would be written, and what stands there so is read back,
-- where that holds of each thing. Rests on Readings.antt.
use mathlib.Core.List.{List, [], ◌∷◌, ◌++◌, append_assoc}
use mathlib.Core.Path.{◌≡◌, sym, ap, ap₂, ◌∙◌}
use Prim.Native.Nat.{ℕ, zero, suc, ◌+◌}
use native.Mathlib.Nat.{add-zero}
use native.Mathlib.Omega.{arith}
use lib.ListN.{length, drop, length-append}
use lib.Seq.{drop-drop, drop-append_seam}
use Rattle.text.specs.Series.{series}
use Rattle.sheet.specs.Number.{Read, got}
use Rattle.sheet.specs.Reading.{onward, many}
use Rattle.sheet.proofs.Readings.{thing_same, next_same, many_next}

-- Behind what stands from a place on.
pub behind : (bytes : List ℕ) (p : ℕ) (g l : List ℕ) → drop p bytes ≡ g ++ l → drop (p + length g) bytes ≡ l
behind bytes p g l e = sym (drop-drop (length g) p bytes) ∙ ap (drop (length g)) e ∙ drop-append_seam g l

module _ (bytes : List ℕ) {A : Type 0} (read : ℕ → ℕ → Read A) (write : ℕ → A → List ℕ) (after : ℕ → A → ℕ) where
  pub series_read : ((s p : ℕ) (x : A) (next : ℕ) → read s p ≡ got x next → drop p bytes ≡ write s x ++ drop next bytes)
      → (n s p : ℕ) {L : List A} {end : ℕ} → many read after n s p ≡ got L end → drop p bytes ≡ series write after s L ++ drop end bytes
  unfolding many series
  series_read item zero s p e = ap₂ (λ (L : List A) (n : ℕ). series write after s L ++ drop n bytes) (thing_same e) (next_same e)
  series_read item (suc n) s p {L} {end} e =
      let b = many_next read after n s p e in
      item s p b.first b.middle b.first_got
      ∙ ap (λ (l : List ℕ). write s b.first ++ l) (series_read item n (after s b.first) b.middle b.rest_got)
      ∙ sym (append_assoc (write s b.first) (series write after (after s b.first) b.rest) (drop end bytes))
      ∙ ap (λ (L : List A). series write after s L ++ drop end bytes) (sym b.is)

  -- Each thing is as it must be, with the number that is known there.
  abbrev pub FitAll : (ℕ → A → Type 0) → ℕ → List A → Type 0
  FitAll Fits s [] = Unit
  FitAll Fits s (x ∷ l) = Fits s x × FitAll Fits (after s x) l

  pub series_written : (Fits : ℕ → A → Type 0)
      → ((s p : ℕ) (x : A) (l : List ℕ) → Fits s x → drop p bytes ≡ write s x ++ l → read s p ≡ got x (p + length (write s x)))
      → (s p : ℕ) (L : List A) (l : List ℕ) → FitAll Fits s L → drop p bytes ≡ series write after s L ++ l
      → many read after (length L) s p ≡ got L (p + length (series write after s L))
  unfolding many series onward
  series_written Fits item s p [] l f e = ap (got []) (sym (add-zero p))
  series_written Fits item s p (x ∷ L) l f e =
      let g = write s x in
      let k = series write after (after s x) L in
      let here = e ∙ append_assoc g k l in
      let q = p + length g in
      let first = item s p x (k ++ l) f.0 here in
      let rest = series_written Fits item (after s x) q L l f.1 (behind bytes p g (k ++ l) here) in
      let end : q + length k ≡ p + length (g ++ k) = omega (arith, length-append g k) in
      rw first (rw rest (ap (got (x ∷ L)) end))
