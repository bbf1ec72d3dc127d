-- A ladder of refusals: it has one outcome at most, and what follows from its outcome. Rests on specs/Ladder.antt.
use mathlib.Core.Logic.{◌≢◌}
use mathlib.Core.Path.{◌≡◌, sym, ◌∙◌, subst}
use Rattle.pattern.specs.Ladder.{Unless, fails, holds}

-- One rung: where the check holds, what is above it has one outcome at most. Whether it holds need not be decided.
pub unless_one : {A P : Type 0} {x : A} {rest : A → Type 0} → (P → (o o' : A) → rest o → rest o' → o ≡ o') → (o o' : A) → Unless P x rest o
    → Unless P x rest o' → o ≡ o'
unless_one u o o' (fails n e) (fails n' e') = e ∙ sym e'
unless_one u o o' (fails n e) (holds p' r') = absurd (n p')
unless_one u o o' (holds p r) (fails n' e') = absurd (n' p)
unless_one u o o' (holds p r) (holds p' r') = u p o o' r r'

-- From one ladder to another over the same checks: a refusal goes to a refusal, and what is above to what is above.
pub unless_map : {A B P : Type 0} {x : A} {y : B} {rest : A → Type 0} {rest' : B → Type 0} {o : A} {o' : B} → (o ≡ x → o' ≡ y) → (rest o → rest' o')
    → Unless P x rest o → Unless P y rest' o'
unless_map f g (fails n e) = fails n (f e)
unless_map f g (holds p r) = holds p (g r)

-- What holds of the refusal, and of what is above, holds of the outcome.
pub unless_both : {A P : Type 0} {x : A} {rest : A → Type 0} {o : A} (F : A → Type 0) → F x → (P → rest o → F o) → Unless P x rest o → F o
unless_both F f g (fails n e) = subst F (sym e) f
unless_both F f g (holds p r) = g p r

-- Where the outcome is not the refusal, the check holds, and what is above.
pub unless_past : {A P : Type 0} {x : A} {rest : A → Type 0} {o : A} → o ≢ x → Unless P x rest o → P × rest o
unless_past n (fails f e) = absurd (n e)
unless_past n (holds p r) = (p, r)

-- Where the check holds, so does what is above.
pub unless_held : {A P : Type 0} {x : A} {rest : A → Type 0} {o : A} → P → Unless P x rest o → rest o
unless_held p (fails n e) = absurd (n p)
unless_held p (holds q r) = r
