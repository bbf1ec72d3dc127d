-- `count_column`: a turn counts one more column for its row.
use mathlib.Core.List.{List}
use mathlib.Core.Path.{sym}
use Prim.Native.Nat.{ℕ, ◌≤◌, ◌<◌}
use native.Mathlib.Omega.{arith}
use Rattle.pattern.specs.Places.{at}
use Rattle.pattern.proofs.Turning.{met_none}
use Rattle.listing.specs.Formed.{parts_of}
use Rattle.listing.proofs.Listings.{good_within}
use Rattle.listing.proofs.Walks.{cursors_as, Turn, turn_of, column_read, row_in, count_few, cursors_more}
use Rattle.listing.proofs.turn.count_column.Goals as goal
use Rattle.listing.proofs.turn.count_column.Goals.{After-part-row-items, After-wide}

abbrev P : After-part-row-items → List (List ℕ)
P c = parts_of c.args.columns

-- A turn, at its row.
module _ (c : After-wide) where
  turn : Turn c.args.columns.size (P (goal.at.After-wide c).After-part-row-items) c.args.j c.loop-row.row-index c.wide.result
  turn = turn_of c.args.columns.good c.requires.0 c.part-row-items.ensures (omega arith) c.wide.ensures

  row_ok : (c.wide.result < 1000) × (at c.loop-row.counts c.wide.result ≤ 1000)
  row_ok = omega (arith, row_in turn, turn.small, c.loop-row.invariant.stand c.wide.result (row_in turn), count_few turn)

pub part-row-items-requires : goal.part-row-items-requires
part-row-items-requires c = omega (arith, good_within c.args.columns.good c.args.j c.requires.0)

pub loop-row-init : goal.loop-row-init
loop-row-init c = cursors_as (λ r h. sym (met_none (P (goal.at.loop-row-init c).After-part-row-items) r c.args.j)) c.requires.1

pub loop-row-preserved : goal.loop-row-preserved
loop-row-preserved c = cursors_more (turn (goal.at.loop-row-preserved c).After-wide) _ (omega arith) c.loop-row.invariant

pub returns : goal.returns
returns c = cursors_as (column_read c.args.columns.good c.requires.0 c.part-row-items.ensures c.loop-row.row-index (omega arith)) c.loop-row.invariant

pub overflow_add-counts : goal.overflow_add-counts
overflow_add-counts c = omega (arith, row_ok (goal.at.overflow_add-counts c).After-wide)
