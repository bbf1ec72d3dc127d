-- `put`: one group and what stands behind it, or two; else what `put_groups` puts.
use native.Mathlib.Omega.{arith}
use Rattle.sheet.proofs.Numbers.{put_one_kept, put_two}
use Rattle.sheet.proofs.number.put.Goals as goal
use Rattle.sheet.proofs.number.put.Goals.{then-value-ge128, else-value-ge128}

pub returns : goal.returns
returns c =
    elim c.if-value-ge128.branch [
      | then-value-ge128 w ↦ rw (w.first-is, w.second-is, w.next-is) (put_two c.args.value c.args.bytes.now c.args.place c.requires.1 w.if-value-ge128.true (omega arith))
      | else-value-ge128 w ↦ rw (w.first-is, w.second-is, w.next-is) (put_one_kept c.args.value c.args.bytes.now c.args.place c.requires.1 w.if-value-ge128.false)
    ]
