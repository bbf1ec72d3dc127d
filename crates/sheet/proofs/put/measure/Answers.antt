-- `measure`: no sheet is so long that its bytes could not be counted.
use native.Mathlib.Omega.{arith}
use Rattle.sheet.proofs.Sizes.{sheet_few}
use Rattle.sheet.proofs.put.measure.Goals as goal

pub put_record-requires : goal.put_record-requires
put_record-requires c =
    (c.requires.0, c.requires.1, omega (arith, sheet_few c.args.columns.good c.args.order_rows.now c.args.order_cols.now))
