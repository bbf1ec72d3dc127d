-- What a `?` hands on: the error as it is. Rests on nothing of the crate.
use mathlib.Core.Path.{◌≡◌}
use Rattle.std.specs.Prelude.{Result, Err}
use Rattle.std.specs.Result.{IsErrAnd}
use Rattle.std.proofs.lemmas.Result.{err_from_is_err_and}

pub handed_on : {A E : Type 0} (e : E) (r : Result A E) → IsErrAnd r (λ x. x ≡ e) → r ≡ Err e
handed_on e r h = let p = err_from_is_err_and r h in cc (p.1, p.2)
