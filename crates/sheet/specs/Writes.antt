-- What writing a sheet gives back, for every call. Rests on Sheet.antt, Reply.antt, `listing` and `register`.
use Rattle.std.specs.Prelude.{List, ◌≡◌, ℕ, ◌≤◌, length}
use Rattle.pattern.specs.Ladder.{Unless}
use Rattle.listing.specs.Held.{over}
use Rattle.register.specs.Checks.{Checks}
use Rattle.register.specs.Lent.{Lists}
use Rattle.sheet.specs.Reply.{Reply, REFUSED, ACCEPTED}
use Rattle.sheet.specs.Sheet.{record_of, sheet}

-- The reply, and the lent bytes as they are then; the register's lists are only read.
pub record WrittenOut : Type 0 where
  pub reply : Reply
  pub bytes : List ℕ

abbrev pub written_out : Reply → List ℕ → WrittenOut
written_out r bytes = record { reply = r; bytes = bytes }

-- Checks 1 to 5, then 8 where the byte list is too short for the sheet of what the lists say. An accepted write returns the byte
-- count and keeps the bytes beyond.
abbrev pub Writes : (m : ℕ) (l : Lists) (bytes : List ℕ) → WrittenOut → Type 0
Writes m l bytes =
    let its_sheet = sheet (record_of m l) in
    Checks m l (λ n. written_out (REFUSED n) bytes)
    (Unless (length its_sheet ≤ length bytes) (written_out (REFUSED 8) bytes)
    (λ o. o ≡ written_out (ACCEPTED (length its_sheet)) (over its_sheet bytes)))
