-- `eliminate`: what the marks and the places tell.
use native.Mathlib.Omega.{arith}
use Rattle.pattern.specs.Places.{at}
use Rattle.pattern.proofs.Greatest.{greatest_low}
use Rattle.pattern.proofs.Rises.{rising_below}
use Rattle.judge.proofs.judge.eliminate.Goals as goal

pub overflow_add-bump : goal.overflow_add-bump
overflow_add-bump c =
    let few = greatest_low (at c.args.places.now) c.args.new.now c.args.m (λ x u. omega (arith, c.requires.in_range.2 x (rising_below c.requires.new_rise.0 x u))) in
    omega (arith, c.top_place.ensures, few, c.requires.in_range.0)
