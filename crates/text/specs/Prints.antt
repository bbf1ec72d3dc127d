-- What is printed behind what has been printed, for the contracts of `output`. Rests on Puts.antt.
use Rattle.std.specs.Prelude.{List, ◌≡◌, ℕ, ◌+◌, ◌≤◌, length}
use Rattle.text.specs.Puts.{Puts}
use Rattle.text.specs.declared.output.Output.{Output}

-- So many bytes more have room.
abbrev pub HasRoom : ℕ → Output → Type 0
HasRoom n out = out.len + n ≤ length out.bytes.now

-- The text has been put behind what had been printed, in the same list: it is not another's, and as long as it was.
pub record Prints (text : List ℕ) (old new : Output) : Type 0 where
  pub same_list : new.bytes.ghost_name ≡ old.bytes.ghost_name
  pub as_long : length new.bytes.now ≡ length old.bytes.now
  pub puts : Puts old.len text old.bytes.now new.len new.bytes.now
