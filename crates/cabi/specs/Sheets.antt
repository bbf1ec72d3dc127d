-- Writing and reading a sheet as C has it: what a call gives back. Rests on `register` and `sheet`.
use Rattle.std.specs.Prelude.{List, ◌≡◌, ℕ}
use Rattle.register.specs.Lent.{Lists}
use Rattle.sheet.specs.Reads.{read_in, Reads}
use Rattle.sheet.specs.Reply.{Reply, REFUSED, ACCEPTED}
use Rattle.sheet.specs.Writes.{written_out, Writes}

-- A refusal goes by its own number, which is 1 to 12, and an accepted call by 0.
abbrev pub sheet_code : Reply → ℕ
sheet_code (REFUSED n) = n
sheet_code (ACCEPTED k) = 0

-- The byte count or the size; 0 in a refusal.
abbrev pub figure : Reply → ℕ
figure (REFUSED n) = 0
figure (ACCEPTED k) = k

-- The right reply to a write, with what it leaves in the bytes.
pub record GivesSheet (m : ℕ) (l : Lists) (bytes : List ℕ) (result count : ℕ) (bytes' : List ℕ) : Type 0 where
  pub reply : Reply
  pub right : Writes m l bytes (written_out reply bytes')
  pub its_result : result ≡ sheet_code reply
  pub its_count : count ≡ figure reply

-- The right reply to a read, with what it leaves in the lists.
pub record GivesRegister (l : Lists) (bytes : List ℕ) (result size : ℕ) (l' : Lists) : Type 0 where
  pub reply : Reply
  pub right : Reads l bytes (read_in reply l')
  pub its_result : result ≡ sheet_code reply
  pub its_size : size ≡ figure reply
