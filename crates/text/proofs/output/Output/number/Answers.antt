-- `number`: the digits from this place on are put.
use native.Mathlib.Omega.{arith}
use Rattle.text.proofs.DigitsPut.{digits_on}
use Rattle.text.proofs.Printing.{prints}
use Rattle.text.proofs.output.Output.number.Goals as goal

pub loop-at-preserved : goal.loop-at-preserved
loop-at-preserved c =
    (c.loop-at.invariant.0, c.loop-at.invariant.1, digits_on c.loop-at.invariant.2 (omega (arith, c.loop-at.invariant.1, c.loop-at-test.true)) c.requires)

pub returns : goal.returns
returns c =
    prints c.requires c.loop-at.invariant.0 (record { after = omega (arith, c.width.ensures); stand = c.loop-at.invariant.2.all (omega arith) })
