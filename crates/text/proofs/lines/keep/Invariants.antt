-- `keep`: the bytes before this one are read; the numbers that have begun are kept.
use Rattle.text.proofs.Keeping.{Keeping}
use Rattle.text.proofs.lines.keep.Given as goal

abbrev pub invariant-loop-byte : goal.invariant-loop-byte
invariant-loop-byte l = Keeping l.rest l.initial.numbers l.byte-index l.at l.numbers
