-- How a reading goes on from what was got. Rests on specs/Reading.antt.
use mathlib.Core.List.{List}
use mathlib.Core.Path.{◌≡◌, refl, ap, ◌∙◌}
use Prim.Native.Nat.{ℕ}
use Rattle.sheet.specs.Number.{Read, got, bad}
use Rattle.sheet.specs.Passes.{gauged}
use Rattle.sheet.specs.Reading.{onward, member_at, pair_at}

module _ {A B : Type 0} {r : Read A} (go_on : A → ℕ → Read B) where
  pub onward_on : {x : A} {next : ℕ} → r ≡ got x next → onward r go_on ≡ go_on x next
  unfolding onward
  onward_on e = ap (λ (r : Read A). onward r go_on) e

-- Of a reading in two steps, by a number.
pub gauged_onward : {A B : Type 0} (f : B → ℕ) (r : Read A) (go_on : A → ℕ → Read B) → gauged f (onward r go_on) ≡ onward r (λ x next. gauged f (go_on x next))
unfolding gauged onward
gauged_onward f (got x k) go_on = refl
gauged_onward f (bad n p) go_on = refl

module _ (bytes : List ℕ) (m : ℕ) where
  -- From the row of a place to its column.
  module _ (t p : ℕ) where
    abbrev its_column : ℕ → ℕ → Read (ℕ × ℕ)
    its_column r q = onward (member_at bytes m q) (λ c next. got (r, c) next)

    pub pair_both : {r q c next : ℕ} → member_at bytes m p ≡ got r q → member_at bytes m q ≡ got c next → pair_at bytes m t p ≡ got (r, c) next
    unfolding pair_at
    pair_both {r} {q} e f = onward_on its_column e ∙ onward_on (λ c next. got (r, c) next) f

    -- The place itself is not read.
    pub pair_any : (t' : ℕ) → pair_at bytes m t p ≡ pair_at bytes m t' p
    unfolding pair_at
    pair_any t' = refl
