-- `number`: the digits from this place on are put.
use mathlib.Core.Path.{◌≡◌}
use Rattle.text.proofs.DigitsPut.{DigitsBehind}
use Rattle.text.proofs.output.Output.number.Given as goal

abbrev pub invariant-loop-at : goal.invariant-loop-at
invariant-loop-at l =
    (l.self.bytes.ghost_name ≡ l.initial.self.bytes.ghost_name) × (l.self.len ≡ l.initial.self.len)
    × DigitsBehind l.n l.initial.self.len l.initial.self.bytes.now l.at l.rest l.self.bytes.now
