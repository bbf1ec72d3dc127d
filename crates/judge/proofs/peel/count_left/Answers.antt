-- `count_left`: the rows of each column rise.
use mathlib.Core.Path.{sym, subst}
use native.Mathlib.Omega.{arith}
use Rattle.pattern.specs.Rising.{Rising}
use Rattle.listing.proofs.Rises.{rising_few}
use Rattle.judge.proofs.SpikedParts.{spiked_part_rises}
use Rattle.judge.proofs.peel.count_left.Goals as goal

pub rows_left-requires : goal.rows_left-requires
rows_left-requires c =
    let G = c.args.pattern.columns.good in
    let column = c.args.pattern.new_column in
    let R =
    subst (Rising c.args.pattern.columns.size) (sym c.part.ensures)
    (spiked_part_rises G column.0 column.1 c.wide.result (omega (arith, c.wide.ensures, c.requires.in_size c.loop-t.t (omega arith)))) in
    (λ k b. omega (arith, R.below k b, G.small), omega (arith, rising_few R, G.small))
