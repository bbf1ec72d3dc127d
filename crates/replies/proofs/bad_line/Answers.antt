-- `bad_line`: it has room.
use native.Mathlib.Omega.{arith}
use Rattle.replies.specs.Replies.{bad_word}
use Rattle.replies.proofs.Lengths.{bad_line_few}
use Rattle.replies.proofs.bad_line.Goals as goal

pub put_numbered-requires : goal.put_numbered-requires
unfolding bad_word
put_numbered-requires c = omega (arith, c.requires, bad_line_few c.args.number (omega (arith, c.ranges.number)))

pub returns : goal.returns
unfolding bad_word
returns c = c.put_numbered.ensures
