-- `window_end`: the greatest place of a new row is one.
use native.Mathlib.Omega.{arith}
use Rattle.pattern.specs.Places.{at}
use Rattle.pattern.proofs.Greatest.{greatest_low}
use Rattle.listing.specs.Limits.{max_size}
use Rattle.judge.proofs.peel.window_end.Goals as goal

pub overflow_add-result : goal.overflow_add-result
overflow_add-result c =
    omega (arith, c.top_place.ensures, c.max.ensures, greatest_low (at c.args.places.now) c.args.new.now max_size (λ x u. omega (arith, c.requires.2 x u)))
