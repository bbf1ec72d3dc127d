-- `width`: the digits of what is left and those that have been counted are all digits, so there are twenty at most.
use mathlib.Core.Path.{ap}
use native.Mathlib.Omega.{arith}
use lib.ListN.{length}
use Rattle.text.proofs.Decimals.{decimal_digit, decimal_longer, decimal_some, decimal_twenty}
use Rattle.text.proofs.output.width.Goals as goal

pub overflow_add-k : goal.overflow_add-k
overflow_add-k c =
    omega (arith, c.loop-rest.invariant, decimal_some c.loop-rest.rest, decimal_twenty c.args.n (omega (arith, c.ranges.n)))

pub loop-rest-preserved : goal.loop-rest-preserved
loop-rest-preserved c = omega (arith, c.loop-rest.invariant, decimal_longer c.loop-rest.rest c.loop-rest-test.true)

pub returns : goal.returns
returns c = omega (arith, c.loop-rest.invariant, ap length (decimal_digit c.loop-rest.rest c.loop-rest-test.false))
