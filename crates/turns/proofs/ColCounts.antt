-- How many numbers a 'col' line of a column has, from what is heard of it. Rests on specs/Steps.antt and `text`.
use mathlib.Core.List.{List, ◌∷◌}
use mathlib.Core.Logic.{◌≢◌}
use mathlib.Core.Path.{◌≡◌, subst}
use Prim.Native.Nat.{ℕ}
use native.Mathlib.Omega.{arith}
use Rattle.std.specs.Prelude.{Some, None}
use Rattle.text.specs.Heard.{SaysSome, Hears}
use Rattle.text.specs.Text.{Speaks}
use Rattle.text.specs.declared.lines.Heard.{Heard}
use Rattle.text.proofs.HeardNumbers.{heard_are, heard_some}
use Rattle.turns.specs.Steps.{ColCount}
use Rattle.turns.specs.Turns.{col_word}

module _ (line : List ℕ) (c : ℕ) where
  -- It says no numbers.
  pub unheard_count : ¬ SaysSome col_word line → ColCount line c None
  unheard_count n rows s = n (c ∷ rows, s)

  module _ {heard : Heard} (h : Hears col_word line (Some heard)) where
    -- It says nothing behind the word, or another column.
    pub other_count : ((heard.count ≢ 0) → (heard.first ≡ c) → ⊥) → ColCount line c None
    other_count n rows s = let e = heard_are col_word line h s in n (λ z. omega (arith, e.1)) e.0

    -- It says this one.
    pub own_count : heard.count ≢ 0 → heard.first ≡ c → ColCount line c (Some heard.count)
    own_count z e =
        let s = heard_some col_word line h z in (s.0, subst (λ (x : ℕ). Speaks line col_word (x ∷ s.0)) e s.1, s.2)
