-- `hear`: the bytes before this one are read; the first number that has begun is known.
use Rattle.text.proofs.Hearing.{Hearing}
use Rattle.text.proofs.lines.hear.Given as goal

abbrev pub invariant-loop-byte : goal.invariant-loop-byte
invariant-loop-byte l = Hearing l.rest l.byte-index l.at l.first
