-- `none`: every mark is false.
use mathlib.Core.Path.{refl}
use Rattle.register.specs.Marks.{unmarked}
use Rattle.register.proofs.marks.Marks.none.Goals as goal

pub returns : goal.returns
unfolding unmarked
returns c = refl
