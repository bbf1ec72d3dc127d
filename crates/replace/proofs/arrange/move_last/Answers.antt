-- `move_last`: what stands behind place t goes one place to the front.
use Rattle.replace.proofs.Arranging.{last_moved}
use Rattle.replace.proofs.arrange.move_last.Goals as goal

pub returns : goal.returns
returns c = rw c.copy_within.ensures.after (last_moved c.args.t c.args.m c.args.list.now c.requires.0 c.requires.1)
