-- The numbers by which C has a replacement's answer. Rests on `replace`.
use Rattle.std.specs.Prelude.{ℕ}
use Rattle.replace.specs.Reply.{Answer, REFUSED, SINGULAR, PERMUTED, ELIMINATION}

-- A refusal goes by its own number, which is 1 to 8, and a verdict by one of these.
abbrev pub code : Answer → ℕ
code (REFUSED n) = n
code SINGULAR = 100
code PERMUTED = 101
code ELIMINATION = 102
