-- The whole calls s1 to s12 are right, from the definitions: computed once. Rests on `pattern`, `register`, `judge` and
-- `replace`.
use mathlib.Core.List.{List, [], ◌∷◌, map}
use mathlib.Core.Path.{◌≡◌, refl, subst}
use Rattle.pattern.specs.Places.{least, place}
use Rattle.pattern.specs.Series.{numbers, greatest, tally}
use Rattle.pattern.specs.Verdict.{to_last}
use Rattle.pattern.proofs.Computed.{reach_rows, eta_rows, unpermuted, after_peel, verdict_of}
use Rattle.pattern.proofs.Peeled.{left, all_but, available, grow, peeled}
use Rattle.pattern.proofs.Reaching.{reached}
use Rattle.pattern.proofs.Rises.{under, rising}
use Rattle.pattern.proofs.Tests.{meets}
use Rattle.register.proofs.Deciding.{all, alike}
use Rattle.register.proofs.Decided.{sized, roomy, started, listed, once_each, ordered, long, formed, agree, fitting}
use Rattle.judge.specs.Call.{asked}
use Rattle.replace.specs.Replace.{Replaces}
use Rattle.replace.proofs.Outcomes.{outcome_of, outcome_right}
use Rattle.specimens.specs.Calls.{Case, table, second}
use Rattle.specimens.specs.Table as by_pattern

-- The case's outcome is right.
abbrev pub Right : Case → Type 0
Right s = Replaces s.call s.outcome

table_computes : map (λ (s : Case). outcome_of s.call) (second ∷ table) ≡ map (λ (s : Case). s.outcome) (second ∷ table)
unfolding outcome_of sized roomy started listed once_each ordered long formed agree fitting all alike rising under verdict_of after_peel peeled grow available left all_but unpermuted reach_rows eta_rows reached meets numbers to_last greatest tally least place
table_computes = refl

each : (l : List Case) → map (λ (s : Case). outcome_of s.call) l ≡ map (λ (s : Case). s.outcome) l → by_pattern.Each Right l
each [] e = tt
each (s ∷ l) e = (subst (Replaces s.call) (cc) (outcome_right s.call), each l (cc))

right : by_pattern.Each Right (second ∷ table)
right = each (second ∷ table) table_computes

-- Every outcome of the table is right; by `outcome_one` no other is.
pub cases : by_pattern.Each Right table
cases = right.1

-- So is that of the second call.
pub second_right : Right second
second_right = right.0

-- They are the replacements of specs/Table.antt.
pub same_asked : map (λ (s : Case). asked s.call) table ≡ map (λ (s : by_pattern.Specimen). s.asked) by_pattern.table
same_asked = refl
