-- `put_groups`: the groups one by one, in the three cases of a number.
use native.Mathlib.Omega.{arith}
use lib.ListN.{length-set}
use Rattle.sheet.proofs.Numbers.{groups_some, put_one, put_two, put_three}
use Rattle.sheet.proofs.number.put_groups.Goals as goal

pub bounds-bytes-place : goal.bounds-bytes-place
bounds-bytes-place c = omega (arith, groups_some c.args.value)

pub returns-then-value-lt128 : goal.returns-then-value-lt128
returns-then-value-lt128 c = put_one c.args.value c.args.bytes.now c.args.place c.requires.1 c.if-value-lt128.true

pub bounds-bytes-place-2 : goal.bounds-bytes-place-2
bounds-bytes-place-2 c = omega (arith, groups_some c.args.value)

pub bounds-bytes-place-then-value-lt16384 : goal.bounds-bytes-place-then-value-lt16384
bounds-bytes-place-then-value-lt16384 c =
    simp length-set (omega (arith, (put_two c.args.value c.args.bytes.now c.args.place c.requires.1 c.if-value-lt128.false c.if-value-lt16384.true).after))

pub returns-then-value-lt16384 : goal.returns-then-value-lt16384
returns-then-value-lt16384 c = put_two c.args.value c.args.bytes.now c.args.place c.requires.1 c.if-value-lt128.false c.if-value-lt16384.true

pub bounds-bytes-place-3 : goal.bounds-bytes-place-3
bounds-bytes-place-3 c =
    simp length-set (omega (arith, (put_three c.args.value c.args.bytes.now c.args.place c.requires.1 c.if-value-lt16384.false).after))

pub bounds-bytes-place-4 : goal.bounds-bytes-place-4
bounds-bytes-place-4 c =
    simp length-set (omega (arith, (put_three c.args.value c.args.bytes.now c.args.place c.requires.1 c.if-value-lt16384.false).after))

pub returns : goal.returns
returns c = put_three c.args.value c.args.bytes.now c.args.place c.requires.1 c.if-value-lt16384.false
