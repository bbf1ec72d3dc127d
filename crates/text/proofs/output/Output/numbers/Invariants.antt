-- `numbers`: the numbers before this one are printed.
use Rattle.text.specs.Text.{carried, spaced_number}
use Rattle.text.proofs.Printing.{Printing}
use Rattle.text.proofs.output.Output.numbers.Given as goal

abbrev pub invariant-loop-n : goal.invariant-loop-n
invariant-loop-n l = Printing spaced_number carried l.numbers l.n-index 0 l.initial.self l.self
