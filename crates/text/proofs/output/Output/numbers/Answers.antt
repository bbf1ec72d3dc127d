-- `numbers`: the numbers before this one are printed.
use Rattle.pattern.specs.Places.{at}
use Rattle.text.proofs.Printing.{printing_more, printing_room}
use Rattle.text.proofs.Progress.{gone_all}
use Rattle.text.proofs.SpacedLaws.{spaced_one}
use Rattle.text.proofs.output.Output.numbers.Goals as goal

pub spaced-requires : goal.spaced-requires
spaced-requires c =
    let e = c.from.ensures in
    rw (e, spaced_one (at c.args.numbers.now c.loop-n.n-index)) (printing_room c.loop-n.invariant 0 c.loop-n-test.true c.requires)

pub loop-n-preserved : goal.loop-n-preserved
loop-n-preserved c =
    printing_more c.loop-n.invariant 0 c.loop-n-test.true c.requires (rw (c.from.ensures, spaced_one (at c.args.numbers.now c.loop-n.n-index)) at c.spaced.ensures)

pub returns : goal.returns
returns c = gone_all c.loop-n.invariant c.loop-n-test.false
