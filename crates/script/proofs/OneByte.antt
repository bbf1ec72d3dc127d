-- A byte makes one thing of a run at most. Rests on specs/Tryout.antt, `text` and `turns`.
use mathlib.Core.Bool.{Bool, true, false}
use Prim.Native.Nat.{ℕ}
use lib.Dec.{eqb}
use Rattle.text.specs.Text.{LF, max_line}
use Rattle.turns.specs.Turns.{Run}
use Rattle.turns.proofs.OneLine.{One, equal_one, line_one}
use Rattle.script.specs.Tryout.{has_ended, ByteDoes, Byte}

byte_does_one : (ended lf full : Bool) (r : Run) (b : ℕ) → One (ByteDoes ended lf full r b)
byte_does_one true lf full r b = equal_one
byte_does_one false true full r b = line_one r.state.turn r
byte_does_one false false true r b = equal_one
byte_does_one false false false r b = equal_one

pub byte_one : (r : Run) (b : ℕ) → One (Byte r b)
byte_one r b = byte_does_one (has_ended r.state) (eqb b LF) (eqb r.state.used max_line) r b
