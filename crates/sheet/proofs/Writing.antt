-- A write's ladder of checks, up to the byte list. Rests on `pattern`, `listing` and `register`.
use mathlib.Core.List.{List}
use mathlib.Core.Path.{◌≡◌, ap₂}
use Prim.Native.Nat.{ℕ, ◌≤◌}
use lib.ListN.{length}
use Rattle.pattern.specs.Ladder.{holds}
use Rattle.listing.specs.Held.{over}
use Rattle.register.specs.Lent.{Lists, SoundLists}
use Rattle.register.proofs.Soundness.{checks_taken}
use Rattle.sheet.specs.Reply.{REFUSED, ACCEPTED}
use Rattle.sheet.specs.Sheet.{record_of, sheet}
use Rattle.sheet.specs.Writes.{written_out, Writes}

-- Of a register that has no fault, and bytes with room.
module _ (m : ℕ) (l : Lists) (bytes : List ℕ) (s : SoundLists m l) where
  pub write_taken : {n : ℕ} {new : List ℕ} → length (sheet (record_of m l)) ≤ length bytes → n ≡ length (sheet (record_of m l))
      → new ≡ over (sheet (record_of m l)) bytes → Writes m l bytes (written_out (ACCEPTED n) new)
  write_taken h e f = checks_taken (λ n. written_out (REFUSED n) bytes) s (holds h (ap₂ (λ (n : ℕ) (new : List ℕ). written_out (ACCEPTED n) new) e f))
