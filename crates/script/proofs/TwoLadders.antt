-- Two ladders of refusals whose checks hold together. Rests on `pattern`.
use mathlib.Core.Path.{sym, subst₂}
use Rattle.pattern.specs.Ladder.{Unless, fails, holds}

-- Where the refusals are so related, and what is above them, the outcomes are.
pub unless_two : {A P P' : Type 0} {x x' : A} {rest rest' : A → Type 0} {o o' : A} (R : A → A → Type 0) → (P → P') → (P' → P) → R x x'
    → (P → P' → rest o → rest' o' → R o o') → Unless P x rest o → Unless P' x' rest' o' → R o o'
unless_two R to from z f (fails n e) (fails n' e') = subst₂ R (sym e) (sym e') z
unless_two R to from z f (fails n e) (holds p r) = absurd (n (from p))
unless_two R to from z f (holds p r) (fails n e) = absurd (n (to p))
unless_two R to from z f (holds p r) (holds p' r') = f p p' r r'
