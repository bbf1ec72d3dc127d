-- `scan_columns`: as many columns as the counter says have been read.
use mathlib.Core.Path.{sym, ap}
use Prim.Native.Nat.{ℕ, ◌+◌, ◌≤◌}
use native.Mathlib.Omega.{arith}
use lib.ListN.{length, length-append}
use Rattle.pattern.specs.Flat.{flat}
use Rattle.listing.specs.Limits.{max_total}
use Rattle.sheet.specs.Reading.{column_at}
use Rattle.sheet.proofs.Gauges.{Gauged, gauged_got, gauged_bad, partly_more, partly_fault, partly_all}
use Rattle.sheet.proofs.Handed.{handed_on}
use Rattle.sheet.proofs.Readings.{column_got}
use Rattle.sheet.proofs.scan.scan_columns.Goals as goal
use Rattle.sheet.proofs.scan.scan_columns.Goals.{In_ok-column}

pub returns-in_err-column : goal.returns-in_err-column
returns-in_err-column c =
    rw (handed_on _ _ c.from_residual.ensures.1) (sym (partly_fault c.loop.invariant.1 (omega arith) (gauged_bad length (column_at c.args.bytes.now c.args.m c.loop.entries c.loop.at) (sym c.in_err-column.ensures))))

-- The column that was read.
module _ (c : In_ok-column) where
  abbrev n : ℕ
  n = c.in_ok-column.column.value

  rows : Gauged length (column_at c.args.bytes.now c.args.m c.loop.entries c.loop.at) n c.in_ok-column.column.next
  rows = gauged_got length (column_at c.args.bytes.now c.args.m c.loop.entries c.loop.at) (sym c.in_ok-column.ensures)

  few : c.loop.entries + n ≤ max_total
  few = omega (arith, (column_got c.args.bytes.now c.args.m c.loop.entries c.loop.at rows.read).few, rows.gauge)

pub overflow_add-entries : goal.overflow_add-entries
overflow_add-entries c = omega (arith, few (goal.at.overflow_add-entries c).In_ok-column)

pub loop-preserved : goal.loop-preserved
loop-preserved c =
    let in_ok_column = (goal.at.loop-preserved c).In_ok-column in (
      few in_ok_column,
      partly_more c.loop.invariant.1 (n in_ok_column) (c.loop.entries + n in_ok_column) (omega arith) (rows in_ok_column).read
          (λ P. omega (arith, length-append (rows in_ok_column).thing (flat P), (rows in_ok_column).gauge)) (ap (λ (k : ℕ). c.loop.entries + k) (rows in_ok_column).gauge),
    )

pub returns : goal.returns
returns c = sym (partly_all c.loop.invariant.1 c.loop.entries (omega arith) (omega arith))
