-- `fill_column`: a turn puts column j at the cursor of its row.
use mathlib.Core.List.{List}
use mathlib.Core.Path.{◌≡◌, sym}
use Prim.Native.Nat.{ℕ, ◌+◌, ◌≤◌, ◌<◌}
use native.Mathlib.Omega.{arith}
use lib.ListN.{length, set, length-set}
use lib.Seq.{get_or-set_same, get_or-set_other}
use Rattle.pattern.specs.Flat.{start_of}
use Rattle.pattern.specs.Pattern.{column}
use Rattle.pattern.specs.Places.{at}
use Rattle.pattern.specs.Turned.{turned}
use Rattle.pattern.proofs.Tallies.{tally_more}
use Rattle.pattern.proofs.Turning.{met, met_none}
use Rattle.listing.specs.Limits.{max_size, max_total}
use Rattle.listing.specs.Formed.{parts_of}
use Rattle.listing.specs.Walk.{Walked}
use Rattle.listing.proofs.Listings.{good_within}
use Rattle.listing.proofs.Turns.{kept_all, kept_set, turned_start, row_ends}
use Rattle.listing.proofs.Walks.{walked_as, Turn, turn_of, column_read, row_in, walked_room, walked_more}
use Rattle.listing.proofs.turn.fill_column.Goals as goal
use Rattle.listing.proofs.turn.fill_column.Goals.{After-part-row-items, After-wide-r}

abbrev P : After-part-row-items → List (List ℕ)
P c = parts_of c.args.columns

-- A turn, at row r.
module _ (c : After-wide-r) where
  abbrev after_part : After-part-row-items
  after_part = (goal.at.After-wide-r c).After-part-row-items

  abbrev cursor : ℕ
  cursor = at c.loop-row.next c.wide-r.result

  abbrev cols : List ℕ
  cols = c.loop-row.cols

  abbrev base : ℕ → ℕ
  base = start_of (turned c.args.columns.size (P after_part))

  turn : Turn c.args.columns.size (P after_part) c.args.j c.loop-row.row-index c.wide-r.result
  turn = turn_of c.args.columns.good c.requires.room.0 c.part-row-items.ensures (omega arith) c.wide-r.ensures

  fits : base c.args.columns.size ≤ length cols
  fits = omega (arith, turned_start c.args.columns.good, c.loop-row.invariant.1.long)

  room : cursor < base (c.wide-r.result + 1)
  room = walked_room turn c.loop-row.invariant.0 fits (omega (arith, row_ends c.args.columns.good c.wide-r.result (row_in turn)))

  -- The row and its cursor are in range, and the cursor is before the end of the rows.
  row_ok : (c.wide-r.result < max_size) × (cursor < at c.args.columns.listed.starts.now c.args.columns.size) × (cursor < length cols) × (cursor < max_total)
  row_ok =
      let within = tally_more (λ i. length (column (turned c.args.columns.size (P after_part)) i)) (c.wide-r.result + 1) c.args.columns.size (omega (arith, row_in turn)) in
      omega (arith, row_in turn, turn.small, room, fits, turned_start c.args.columns.good, c.args.columns.good.formed.starts_right.total)

  goes_on : (v : ℕ) → v ≡ cursor + 1
      → Walked c.args.columns.size base (set cols cursor c.args.j) (λ r. met (P after_part) r c.args.j (c.loop-row.row-index + 1))
      (set c.loop-row.next c.wide-r.result v)
  goes_on =
      walked_more turn c.loop-row.invariant.0 fits room (set cols cursor c.args.j) (length-set cols cursor c.args.j)
      (get_or-set_same cols cursor c.args.j 0 row_ok.2) (λ q n. get_or-set_other cols cursor q c.args.j 0 n)

pub part-row-items-requires : goal.part-row-items-requires
part-row-items-requires c = omega (arith, good_within c.args.columns.good c.args.j c.requires.room.0)

pub loop-row-init : goal.loop-row-init
loop-row-init c = (walked_as (λ r h. sym (met_none (P (goal.at.loop-row-init c).After-part-row-items) r c.args.j)) c.requires.walked, kept_all)

pub loop-row-preserved : goal.loop-row-preserved
loop-row-preserved c =
    let after_wide_r = (goal.at.loop-row-preserved c).After-wide-r in
    let kept = kept_set {l = cols after_wide_r} (cursor after_wide_r) c.args.j (row_ok after_wide_r).1 c.loop-row.invariant.1 in
    (rw c.wide.ensures (goes_on after_wide_r _ (omega arith)), rw c.wide.ensures kept)

pub returns : goal.returns
returns c =
    (walked_as (column_read c.args.columns.good c.requires.room.0 c.part-row-items.ensures c.loop-row.row-index (omega arith)) c.loop-row.invariant.0, c.loop-row.invariant.1)

pub bounds-cols-wide : goal.bounds-cols-wide
bounds-cols-wide c = omega (arith, row_ok (goal.at.bounds-cols-wide c).After-wide-r)

pub overflow_add-next : goal.overflow_add-next
overflow_add-next c = omega (arith, row_ok (goal.at.overflow_add-next c).After-wide-r)
