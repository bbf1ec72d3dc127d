-- `fill`: the column listing, the order, and the columns turned.
use mathlib.Core.List.{List, []}
use mathlib.Core.Path.{◌≡◌, ap}
use Prim.Native.Nat.{ℕ, ◌≤◌}
use native.Mathlib.Omega.{arith}
use lib.ListN.{length}
use Rattle.pattern.specs.Flat.{flat}
use Rattle.pattern.proofs.Turning.{Columns}
use Rattle.listing.specs.Held.{Held}
use Rattle.listing.specs.Limits.{max_size}
use Rattle.sheet.specs.Number.{got}
use Rattle.sheet.specs.Passes.{thing, blank, LaidOut}
use Rattle.sheet.specs.Reading.{size_test, size_at, columns_at, order_at, record_read}
use Rattle.sheet.specs.Sheet.{Record}
use Rattle.sheet.proofs.Formed.{columns_formed}
use Rattle.sheet.proofs.Layouts.{laid_out}
use Rattle.sheet.proofs.Lefts.{got_is, thing_is}
use Rattle.sheet.proofs.Listings.{RoomFor, stored_total, stored_good, stored_turned}
use Rattle.sheet.proofs.Accepted.{record_well, size_found, columns_found, order_found}
use Rattle.sheet.proofs.Readings.{size_got}
use Rattle.sheet.proofs.Wider.{number_again, short}
use Rattle.sheet.proofs.fill.fill.Goals as goal
use Rattle.sheet.proofs.fill.fill.Goals.{After-fill_columns-order, After-known-m, Start}

-- The record that lies in the bytes.
module _ (s : Start) where
  abbrev bytes : List ℕ
  bytes = s.args.bytes.now

  abbrev x : Record
  x = thing blank (record_read bytes)

  lies : (columns order : ℕ) × LaidOut bytes x columns order
  lies = laid_out bytes s.requires.0.read

-- Once the size has been read.
module _ (c : After-known-m) where
  abbrev start : Start
  start = (goal.at.After-known-m c).Start

  abbrev m : ℕ
  m = c.known-m.result.value

  size_read : size_at (bytes start) 0 ≡ got m c.known-m.result.next
  size_read = number_again (bytes start) size_test 1 0 (lies start).2.size_read c.known-m.ensures

  size_is : m ≡ (x start).size
  size_is = size_found (lies start).2 size_read

  small : m ≤ max_size
  small = omega (arith, size_is, (record_well (lies start).2).sized.1)

  columns_are : thing [] (columns_at (bytes start) m c.known-m.result.next) ≡ (x start).columns
  columns_are = thing_is [] (columns_found (lies start).2 size_read)

  formed : Columns m (x start).columns
  formed = columns_formed (bytes start) m c.known-m.result.next (columns_found (lies start).2 size_read)

  room : RoomFor m (x start).columns c.args.lists.now.col_starts.now c.args.lists.now.col_rows.now
  room = record { size = formed.size; starts_fit = omega (arith, size_is, c.requires.1.col_starts_fit); entries_fit = c.requires.1.col_rows_fit }

-- Once the columns stand in their lists.
module _ (c : After-fill_columns-order) where
  abbrev after_known_m : After-known-m
  after_known_m = (goal.at.After-fill_columns-order c).After-known-m

  abbrev start_of_fill_columns_order : Start
  start_of_fill_columns_order = (goal.at.After-fill_columns-order c).Start

  order_read : order_at (bytes start_of_fill_columns_order) (m after_known_m) c.fill_columns-order.result ≡ got (x start_of_fill_columns_order).order (length (bytes start_of_fill_columns_order))
  order_read = order_found (lies start_of_fill_columns_order).2 (size_read after_known_m) c.fill_columns-order.ensures.0

  held : Held (x start_of_fill_columns_order).columns c.args.lists.now.col_starts.now c.args.lists.now.col_rows.now c.fill_columns-order.new.cs c.fill_columns-order.new.cr
  held = rw (columns_are after_known_m) at c.fill_columns-order.ensures.1

pub known-m-requires : goal.known-m-requires
known-m-requires c =
    let start = (goal.at.known-m-requires c).Start in
    let g = size_got (bytes start) 0 (lies start).2.size_read in
    short (bytes start) 0 g.0 (omega (arith, g.2))

pub fill_columns-order-requires : goal.fill_columns-order-requires
fill_columns-order-requires c =
    let after_known_m = (goal.at.fill_columns-order-requires c).After-known-m in
    (small after_known_m, got_is [] (columns_found (lies (goal.at.fill_columns-order-requires c).Start).2 (size_read after_known_m)), (room after_known_m).starts_fit, omega (arith, (room after_known_m).entries_fit, ap (λ (P : List (List ℕ)). length (flat P)) (columns_are after_known_m)))

pub fill_order-requires : goal.fill_order-requires
fill_order-requires c =
    let after_known_m = (goal.at.fill_order-requires c).After-known-m in
    (small after_known_m, got_is [] (order_read (goal.at.fill_order-requires c).After-fill_columns-order), omega (arith, size_is after_known_m, c.requires.1.order_rows_fit), omega (arith, size_is after_known_m, c.requires.1.order_cols_fit))

pub invariant_of-columns : goal.invariant_of-columns
invariant_of-columns c =
    let after_known_m = (goal.at.invariant_of-columns c).After-known-m in
    record { good = stored_good (room after_known_m) (held (goal.at.invariant_of-columns c).After-fill_columns-order) (formed after_known_m) (record_well (lies (goal.at.invariant_of-columns c).Start).2).few (small after_known_m) }

pub turn-requires : goal.turn-requires
turn-requires c =
    let after_known_m = (goal.at.turn-requires c).After-known-m in (
      omega (arith, size_is after_known_m, c.requires.1.row_starts_fit),
      omega (arith, stored_total (room after_known_m) (held (goal.at.turn-requires c).After-fill_columns-order), c.requires.1.row_cols_fit),
    )

pub returns-clause-filled : goal.returns-clause-filled
returns-clause-filled c =
    let after_known_m = (goal.at.returns-clause-filled c).After-known-m in
    let after_fill_columns_order = (goal.at.returns-clause-filled c).After-fill_columns-order in
    let rows = stored_turned (room after_known_m) (held after_fill_columns_order) (size_is after_known_m) c.turn.ensures in
    let order = thing_is [] (order_read after_fill_columns_order) in
    cc ((held after_fill_columns_order).starts_after, (held after_fill_columns_order).entries_after, rows.starts_after, rows.entries_after, rw order at c.fill_order.ensures.0, rw order at c.fill_order.ensures.1)
