-- `scan`: the size, the columns, the order and the end of the bytes.
use mathlib.Core.List.{List}
use mathlib.Core.Path.{◌≡◌, refl, sym, ap, ◌∙◌}
use Prim.Native.Nat.{ℕ}
use lib.ListN.{length}
use Rattle.pattern.specs.Flat.{flat}
use Rattle.sheet.specs.Number.{got}
use Rattle.sheet.specs.Reading.{size_at, columns_at, order_at}
use Rattle.sheet.proofs.Gauges.{Gauged, gauged_got}
use Rattle.sheet.proofs.Readings.{size_got}
use Rattle.sheet.proofs.scan.scan.Goals as goal
use Rattle.sheet.proofs.scan.scan.Goals.{In_ok-m, In_ok-total, In_ok-end}

-- The size that was read, and where the columns begin.
module _ (c : In_ok-m) where
  abbrev bytes : List ℕ
  bytes = c.args.bytes.now

  abbrev m : ℕ
  m = c.in_ok-m.field-0.value

  abbrev columns : ℕ
  columns = c.in_ok-m.field-0.next

  size_read : size_at bytes 0 ≡ got m columns
  size_read = sym c.in_ok-m.ensures

-- The columns that were read, and where the order begins.
module _ (c : In_ok-total) where
  abbrev sized : In_ok-m
  sized = (goal.at.In_ok-total c).In_ok-m

  abbrev order : ℕ
  order = c.in_ok-total.field-0.next

  columns_read : Gauged (λ (P : List (List ℕ)). length (flat P)) (columns_at (bytes sized) (m sized) (columns sized)) c.in_ok-total.field-0.value order
  columns_read =
      gauged_got (λ (P : List (List ℕ)). length (flat P)) (columns_at (bytes sized) (m sized) (columns sized)) (sym c.in_ok-total.ensures)

-- The order that was read, and where it ends.
module _ (c : In_ok-end) where
  abbrev listed : In_ok-total
  listed = (goal.at.In_ok-end c).In_ok-total

  abbrev its_size : In_ok-m
  its_size = (goal.at.In_ok-end c).In_ok-m

  order_read : Gauged length (order_at (bytes its_size) (m its_size) (order listed)) c.in_ok-end.field-0.value c.in_ok-end.field-0.next
  order_read = gauged_got length (order_at (bytes its_size) (m its_size) (order listed)) (sym c.in_ok-end.ensures)

pub scan_columns-requires : goal.scan_columns-requires
scan_columns-requires c = (size_got c.args.bytes.now 0 (size_read (goal.at.scan_columns-requires c).In_ok-m)).2

pub returns : goal.returns
returns c =
    let s = (goal.at.returns c).In_ok-m in
    let columns = columns_read (goal.at.returns c).In_ok-total in
    let order = order_read (goal.at.returns c).In_ok-end in (
      record { size = m s; columns = columns.thing; order = order.thing },
      record { size_read = size_read s; columns_read = columns.read; order_read = order.read ∙ ap (got order.thing) c.if-end-bytes.false },
      refl,
      sym columns.gauge,
    )
