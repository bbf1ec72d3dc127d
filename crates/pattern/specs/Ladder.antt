-- How refusals are stated: one rung for each check, in the order of their numbers. Rests on nothing.
use Rattle.std.specs.Prelude.{◌≡◌}

-- One rung: where the check `P` fails the outcome is its refusal, and where it holds the rest of the ladder decides.
pub data Unless {A : Type 0} (P : Type 0) (refusal : A) (rest : A → Type 0) (outcome : A) : Type 0 where
  fails : ¬ P → outcome ≡ refusal → Unless P refusal rest outcome
  holds : P → rest outcome → Unless P refusal rest outcome
