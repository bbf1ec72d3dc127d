-- `write_sheet`: a refusal by the checks of the register or by the byte list, or the sheet. A byte list that no sheet passes has room unmeasured.
use Prim.Native.Nat.{◌≤◌}
use native.Mathlib.Omega.{arith}
use lib.ListN.{length}
use Rattle.register.specs.Lent.{Lists, SoundLists}
use Rattle.register.specs.Loan.{seen}
use Rattle.register.proofs.Soundness.{fault_none}
use Rattle.sheet.specs.Sheet.{record_of, sheet}
use Rattle.sheet.proofs.Sizes.{sheet_longest}
use Rattle.sheet.proofs.Writing.{write_taken}
use Rattle.sheet.proofs.write_sheet.Goals as goal
use Rattle.sheet.proofs.write_sheet.Goals.{Joined-bytes-lt-LONGEST, then-bytes-lt-LONGEST+else-bytes-count, else-bytes-lt-LONGEST}

-- Where the ways join the lists are sound, and there is room: it was measured, or no sheet is longer.
module _ (c : Joined-bytes-lt-LONGEST) where
  abbrev lent : Lists
  lent = seen c.args.lists

  sound : SoundLists c.args.size lent
  sound = fault_none c.args.size lent c.in_ok-check.ensures

  fits : length (sheet (record_of c.args.size lent)) ≤ length c.args.bytes.now
  fits =
      elim c.if-bytes-lt-LONGEST.branch [
        | then-bytes-lt-LONGEST+else-bytes-count w ↦ omega (arith, w.measure-count.ensures, w.if-bytes-count.false)
        | else-bytes-lt-LONGEST w ↦ omega (arith, w.if-bytes-lt-LONGEST.false, sheet_longest sound)
      ]

pub put_sheet-requires : goal.put_sheet-requires
put_sheet-requires c =
    let j = (goal.at.put_sheet-requires c).Joined-bytes-lt-LONGEST in
    let s = sound j in
    (s.long.order_rows_fit, s.long.order_cols_fit, fits j)

pub returns : goal.returns
returns c =
    let j = (goal.at.returns c).Joined-bytes-lt-LONGEST in
    write_taken c.args.size (lent j) c.args.bytes.now (sound j) (fits j) c.put_sheet.ensures.0 c.put_sheet.ensures.1
