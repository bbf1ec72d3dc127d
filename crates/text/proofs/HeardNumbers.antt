-- What is heard of a line says what its numbers are. Rests on specs/Heard.antt and Speaking.antt.
use mathlib.Core.List.{List, [], ◌∷◌}
use mathlib.Core.Logic.{◌≢◌}
use mathlib.Core.Path.{◌≡◌, sym, ap, ◌∙◌, subst}
use Prim.Native.Nat.{ℕ, suc}
use native.Mathlib.Omega.{arith}
use lib.ListN.{length}
use Rattle.pattern.specs.Places.{at}
use Rattle.std.specs.Prelude.{Some}
use Rattle.text.specs.Heard.{Hears}
use Rattle.text.specs.Text.{Speaks}
use Rattle.text.specs.declared.lines.Heard.{Heard}
use Rattle.text.proofs.Speaking.{speaks_one}

module _ (word line : List ℕ) {heard : Heard} (h : Hears word line (Some heard)) where
  abbrev first : ℕ
  first = heard.first

  abbrev count : ℕ
  count = heard.count

  -- Any numbers that the line says are these.
  pub heard_are : {l : List ℕ} → Speaks line word l → (first ≡ at l 0) × (count ≡ length l)
  heard_are s = let e = speaks_one h.1 s in (h.2 ∙ ap (λ (l : List ℕ). at l 0) e, h.3 ∙ ap length e)

  -- Where there are some, the first and the rest.
  pub heard_some : count ≢ 0 → (rows : List ℕ) × Speaks line word (first ∷ rows) × (count ≡ suc (length rows))
  heard_some z = from h.0 h.1 h.2 h.3
    where
      from : (l : List ℕ) → Speaks line word l → first ≡ at l 0 → count ≡ length l → (rows : List ℕ) × Speaks line word (first ∷ rows) × (count ≡ suc (length rows))
      from [] s e n = absurd (z n)
      from (x ∷ rows) s e n = (rows, subst (λ (y : ℕ). Speaks line word (y ∷ rows)) (sym e) s, n)

  -- Where there is one.
  pub heard_alone : count ≡ 1 → Speaks line word (first ∷ [])
  heard_alone e = only (heard_some (λ z. omega arith))
    where
      only : (rows : List ℕ) × Speaks line word (first ∷ rows) × (count ≡ suc (length rows)) → Speaks line word (first ∷ [])
      only ([], s, n) = s
      only (x ∷ rows, s, n) = absurd (omega arith)
