-- `turn`: counts, starts, rows, and that these are the turned listing.
use mathlib.Core.Path.{refl}
use native.Mathlib.Omega.{arith}
use lib.ListN.{get_or-replicate}
use Rattle.listing.specs.Formed.{parts_of}
use Rattle.listing.proofs.Turns.{turned_start, counts_start, fill_none, turned_held}
use Rattle.listing.proofs.Walks.{cursors_none}
use Rattle.listing.proofs.turn.turn.Goals as goal

pub count_rows-requires : goal.count_rows-requires
count_rows-requires c =
    cursors_none (λ _. 0) (parts_of c.args.columns) refl (λ r h. get_or-replicate 1000 r 0 0 (omega (arith, c.args.columns.good.small)))

pub lay_starts-requires : goal.lay_starts-requires
lay_starts-requires c =
    let N = c.count_rows.ensures in
    let total = counts_start c.args.columns.good N c.args.columns.size (omega arith) in
    (c.args.columns.good.small, c.requires.0, N.long, omega (arith, turned_start c.args.columns.good, c.args.columns.good.formed.starts_right.total))

pub fill_rows-requires : goal.fill_rows-requires
fill_rows-requires c =
    record { room = c.requires.1; walked = fill_none c.args.columns.good c.count_rows.ensures c.lay_starts.ensures c.args.into_entries.now }

pub returns : goal.returns
returns c =
    let e = c.fill_rows.ensures in
    turned_held c.args.columns.good c.count_rows.ensures c.lay_starts.ensures e.0 e.1 c.requires.1 c.requires.0
