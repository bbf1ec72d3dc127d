-- `open`: where the register does not refuse the start, `put` is wanted.
use Rattle.text.proofs.Printing.{prints_none}
use Rattle.register.specs.Loan.{held}
use Rattle.turns.specs.Turns.{lent, run}
use Rattle.turns.proofs.Opening.{start_sound}
use Rattle.turns.proofs.col_turn.open.Goals as goal

pub returns-in-Ok-clause-makes : goal.returns-in-Ok-clause-makes
returns-in-Ok-clause-makes c before new eta numbers line =
    let a = c.args in
    start_sound (run a.state (lent before eta numbers line)) a.size new (held a.lists.now) c.if-not-fits.false (rw c.in-Ok.is at c.start.ensures) c.next_line.ensures (prints_none a.out.now)
