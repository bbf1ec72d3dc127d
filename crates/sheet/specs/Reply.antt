-- What the writer, the reader and the part that decides reply, by the build paper's numbers. Rests on `register`.
use Rattle.std.specs.Prelude.{Bool, ℕ, Result, Ok, Err}
use Rattle.register.specs.Reply as register
use Rattle.register.specs.declared.Refusal.{Refusal}
use Rattle.sheet.specs.Number.{Read, got, bad}
use Rattle.sheet.specs.declared.number.Step.{Step}
use Rattle.sheet.specs.declared.Examined.{Examined}
use Rattle.sheet.specs.declared.Fault.{Fault}

-- What is said of one number that was to be read.
abbrev pub told : Result Step Fault → Read ℕ
told (Ok step) = got step.value step.next
told (Err fault) = bad (register.number fault.reply) fault.place

-- A refusal by its number, or that the call is accepted, with a figure: the byte count of a write, the size of a read.
pub data Reply : Type 0 where
  REFUSED : (number : ℕ) → Reply
  ACCEPTED : (figure : ℕ) → Reply

-- What the writer's answer says, and the reader's.
abbrev pub written : Result ℕ Refusal → Reply
written (Ok count) = ACCEPTED count
written (Err refusal) = REFUSED (register.number refusal)

abbrev pub filled : Result ℕ Refusal → Reply
filled = written

-- What the bytes alone decide: a refusal with its place, or the size, the total and whether the order is sound.
pub data Finding : Type 0 where
  refused : (reply place : ℕ) → Finding
  found : (size total : ℕ) (sound : Bool) → Finding

abbrev pub finding : Result Examined Fault → Finding
finding (Ok sheet) = found sheet.size sheet.total sheet.sound
finding (Err fault) = refused (register.number fault.reply) fault.place
