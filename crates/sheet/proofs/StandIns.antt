-- Stand-ins that the statements of the sheet's functions reject, each on one input. Rests on Example.antt and Determined.antt.
use mathlib.Core.Bool.{true}
use mathlib.Core.List.{List, [], ◌∷◌}
use mathlib.Core.Path.{◌≡◌, ap}
use Prim.Native.Nat.{ℕ}
use native.Mathlib.Omega.{arith}
use Rattle.pattern.specs.Places.{at}
use Rattle.register.specs.Lent.{Lists}
use Rattle.sheet.specs.Number.{byte, ended, number}
use Rattle.sheet.specs.Reading.{onward, number_that, many, row_at, column_at, pair_at, record_read}
use Rattle.sheet.specs.Reads.{Examines, ReadIn, read_in, Reads}
use Rattle.sheet.specs.Reply.{REFUSED, ACCEPTED, refused, found}
use Rattle.sheet.specs.Writes.{WrittenOut, written_out, Writes}
use Rattle.sheet.proofs.Determined.{written_one, read_one}
use Rattle.sheet.proofs.Replies.{not_both}
use Rattle.sheet.proofs.Example.{example_sheet, example_lists, example_room, example_writes, wide_lists, example_reads}

-- ---- The writer

module _ {o : WrittenOut} (w : Writes 2 example_lists example_room o) where
  right : o ≡ written_out (ACCEPTED 10) (2 ∷ 1 ∷ 0 ∷ 2 ∷ 0 ∷ 0 ∷ 0 ∷ 0 ∷ 1 ∷ 1 ∷ 7 ∷ [])
  right = written_one 2 example_lists example_room o _ w example_writes

-- One that refuses everything.
pub refusing_writer_fails : (n : ℕ) (bytes : List ℕ) → ¬ Writes 2 example_lists example_room (written_out (REFUSED n) bytes)
refusing_writer_fails n bytes w = not_both (ap (λ (o : WrittenOut). o.reply) (right w))

-- One that says that it has written, and has not.
pub idle_writer_fails : (n : ℕ) → ¬ Writes 2 example_lists example_room (written_out (ACCEPTED n) example_room)
idle_writer_fails n w = omega (arith, ap (λ (o : WrittenOut). at o.bytes 0) (right w))

-- One that touches the bytes beyond.
pub spilling_writer_fails : (n : ℕ) → ¬ Writes 2 example_lists example_room (written_out (ACCEPTED n) (2 ∷ 1 ∷ 0 ∷ 2 ∷ 0 ∷ 0 ∷ 0 ∷ 0 ∷ 1 ∷ 1 ∷ 0 ∷ []))
spilling_writer_fails n w = omega (arith, ap (λ (o : WrittenOut). at o.bytes 10) (right w))

-- ---- The reader

-- One that refuses everything.
pub refusing_reader_fails : (n : ℕ) (l : Lists) → ¬ Reads wide_lists example_sheet (read_in (REFUSED n) l)
refusing_reader_fails n l g = not_both (ap (λ (o : ReadIn). o.reply) (read_one wide_lists example_sheet _ _ g example_reads))

-- One that says that it has read, and has stored nothing.
pub idle_reader_fails : (n : ℕ) → ¬ Reads wide_lists example_sheet (read_in (ACCEPTED n) wide_lists)
idle_reader_fails n g = omega (arith, ap (λ (o : ReadIn). at o.lists.row_starts 0) (read_one wide_lists example_sheet _ _ g example_reads))

-- ---- The part that decides

-- One that refuses everything.
pub refusing_examiner_fails : (n p : ℕ) → ¬ Examines example_sheet (refused n p)
unfolding byte ended number onward number_that many row_at column_at pair_at record_read
refusing_examiner_fails n p f = let z : ◌≡◌ {A = ℕ} 0 1 = cc f.2 in omega arith

-- One that calls every order sound: on a sheet of size 1 whose column has no row.
pub passing_examiner_fails : (m n : ℕ) → ¬ Examines (1 ∷ 0 ∷ 0 ∷ 0 ∷ []) (found m n true)
unfolding byte ended number onward number_that many row_at column_at pair_at record_read
passing_examiner_fails m n f = (f.1.yes (cc f.2)).paired 0 (omega arith)
