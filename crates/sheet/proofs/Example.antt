-- The build paper's example sheet, written and read, and one sheet for each reply of the reader: whole calls, by computation.
-- Rests on Computed.antt.
use mathlib.Core.List.{List, [], ◌∷◌, map}
use mathlib.Core.Path.{◌≡◌, refl, subst}
use Prim.Native.Nat.{ℕ}
use Rattle.pattern.specs.Series.{numbers, tally}
use Rattle.pattern.proofs.Rises.{under, rising}
use Rattle.text.specs.Series.{series}
use Rattle.register.specs.Lent.{Lists, lists}
use Rattle.register.proofs.Deciding.{all, alike}
use Rattle.register.proofs.Decided.{sized, roomy, started, listed, once_each, ordered, long, formed, agree}
use Rattle.sheet.specs.Number.{groups, got, byte, ended, number}
use Rattle.sheet.specs.Reading.{onward, number_that, many, row_at, column_at, pair_at, record_read}
use Rattle.sheet.specs.Reads.{ReadIn, read_in, Reads}
use Rattle.sheet.specs.Reply.{REFUSED, ACCEPTED}
use Rattle.sheet.specs.Sheet.{Record, sheet}
use Rattle.sheet.specs.Writes.{written_out, Writes}
use Rattle.sheet.proofs.Computed.{written_of, written_right, taking, taken, read_of, read_right}

-- Size 2, columns 0:{0} and 1:{0,1}, order 0:0 1:1, and its sheet.
abbrev pub example : Record
example = record { size = 2; columns = (0 ∷ []) ∷ (0 ∷ 1 ∷ []) ∷ []; order = (0, 0) ∷ (1, 1) ∷ [] }

abbrev pub example_sheet : List ℕ
example_sheet = 2 ∷ 1 ∷ 0 ∷ 2 ∷ 0 ∷ 0 ∷ 0 ∷ 0 ∷ 1 ∷ 1 ∷ []

pub example_written : sheet example ≡ example_sheet
unfolding groups series
example_written = refl

pub example_read : record_read example_sheet ≡ got example 10
unfolding byte ended number onward number_that many row_at column_at pair_at record_read
example_read = refl

-- ---- The same in lent lists

-- Its lists, and others with room for it and two places more, in which 9 stands everywhere.
abbrev pub example_lists : Lists
example_lists =
    lists (0 ∷ 1 ∷ 3 ∷ []) (0 ∷ 0 ∷ 1 ∷ []) (0 ∷ 2 ∷ 3 ∷ []) (0 ∷ 1 ∷ 1 ∷ []) (0 ∷ 1 ∷ []) (0 ∷ 1 ∷ [])

abbrev pub wide_lists : Lists
wide_lists =
    lists (9 ∷ 9 ∷ 9 ∷ 9 ∷ 9 ∷ []) (9 ∷ 9 ∷ 9 ∷ 9 ∷ 9 ∷ []) (9 ∷ 9 ∷ 9 ∷ 9 ∷ 9 ∷ []) (9 ∷ 9 ∷ 9 ∷ 9 ∷ 9 ∷ []) (9 ∷ 9 ∷ 9 ∷ 9 ∷ []) (9 ∷ 9 ∷ 9 ∷ 9 ∷ [])

abbrev pub filled_lists : Lists
filled_lists =
    lists (0 ∷ 1 ∷ 3 ∷ 9 ∷ 9 ∷ []) (0 ∷ 0 ∷ 1 ∷ 9 ∷ 9 ∷ []) (0 ∷ 2 ∷ 3 ∷ 9 ∷ 9 ∷ []) (0 ∷ 1 ∷ 1 ∷ 9 ∷ 9 ∷ []) (0 ∷ 1 ∷ 9 ∷ 9 ∷ []) (0 ∷ 1 ∷ 9 ∷ 9 ∷ [])

-- Eleven bytes.
abbrev pub example_room : List ℕ
example_room = 7 ∷ 7 ∷ 7 ∷ 7 ∷ 7 ∷ 7 ∷ 7 ∷ 7 ∷ 7 ∷ 7 ∷ 7 ∷ []

-- Written into these, ten are used, and the last is kept.
write_computes : written_of 2 example_lists example_room ≡ written_out (ACCEPTED 10) (2 ∷ 1 ∷ 0 ∷ 2 ∷ 0 ∷ 0 ∷ 0 ∷ 0 ∷ 1 ∷ 1 ∷ 7 ∷ [])
unfolding written_of sized roomy started listed once_each ordered long formed agree all alike rising under numbers groups series
write_computes = refl

pub example_writes : Writes 2 example_lists example_room (written_out (ACCEPTED 10) (2 ∷ 1 ∷ 0 ∷ 2 ∷ 0 ∷ 0 ∷ 0 ∷ 0 ∷ 1 ∷ 1 ∷ 7 ∷ []))
example_writes = subst (Writes 2 example_lists example_room) write_computes (written_right 2 example_lists example_room)

-- ---- One sheet for each reply

-- A sheet that is handed in, the lists, and what comes back.
pub record Case : Type 0 where
  pub bytes : List ℕ
  pub before : Lists
  pub after : ReadIn

-- A refusal.
abbrev refused : List ℕ → ℕ → Case
refused bytes n = record { bytes = bytes; before = wide_lists; after = read_in (REFUSED n) wide_lists }

abbrev pub table : List Case
table =
    -- The example.
    record { bytes = example_sheet; before = wide_lists; after = read_in (ACCEPTED 2) filled_lists }
    -- 1: size 0, and size 1,001.
    ∷ refused (0 ∷ []) 1
    ∷ refused (233 ∷ 7 ∷ []) 1
    -- 9: nothing at all, inside a number, before the last number.
    ∷ refused [] 9
    ∷ refused (128 ∷ []) 9
    ∷ refused (2 ∷ 1 ∷ 0 ∷ 2 ∷ 0 ∷ 0 ∷ 0 ∷ 0 ∷ 1 ∷ []) 9
    -- 10: a second and a third group that ends the number and is zero, and a third with its high bit set.
    ∷ refused (130 ∷ 0 ∷ []) 10
    ∷ refused (130 ∷ 128 ∷ 0 ∷ []) 10
    ∷ refused (130 ∷ 128 ∷ 128 ∷ []) 10
    -- 11: a count over the size before the rows that are cut, a row, a row by its gap, a column of the order.
    ∷ refused (2 ∷ 3 ∷ []) 11
    ∷ refused (2 ∷ 1 ∷ 2 ∷ []) 11
    ∷ refused (2 ∷ 2 ∷ 1 ∷ 0 ∷ []) 11
    ∷ refused (1 ∷ 1 ∷ 0 ∷ 0 ∷ 1 ∷ []) 11
    -- 12: a byte more.
    ∷ refused (1 ∷ 1 ∷ 0 ∷ 0 ∷ 0 ∷ 0 ∷ []) 12
    -- 2 before 5: the lists of the example's size for a sheet of size 5.
    ∷ refused (5 ∷ 0 ∷ 0 ∷ 0 ∷ 0 ∷ 0 ∷ 0 ∷ 0 ∷ 0 ∷ 0 ∷ 0 ∷ 0 ∷ 0 ∷ 0 ∷ 0 ∷ 0 ∷ []) 2
    -- 5: an empty column, and a row twice in the order.
    ∷ refused (1 ∷ 0 ∷ 0 ∷ 0 ∷ []) 5
    ∷ refused (2 ∷ 1 ∷ 0 ∷ 2 ∷ 0 ∷ 0 ∷ 0 ∷ 0 ∷ 0 ∷ 1 ∷ []) 5
    ∷ []

table_computes : map (λ (s : Case). read_of s.before s.bytes) table ≡ map (λ (s : Case). s.after) table
unfolding read_of taken taking once_each ordered all numbers tally byte ended number onward number_that many row_at column_at pair_at record_read
table_computes = refl

abbrev Each : (Case → Type 0) → List Case → Type 0
Each P [] = Unit
Each P (s ∷ l) = P s × Each P l

-- What comes back is right.
abbrev pub Right : Case → Type 0
Right s = Reads s.before s.bytes s.after

each : (l : List Case) → map (λ (s : Case). read_of s.before s.bytes) l ≡ map (λ (s : Case). s.after) l → Each Right l
each [] e = tt
each (s ∷ l) e = (subst (Reads s.before s.bytes) (cc) (read_right s.before s.bytes), each l (cc))

pub cases : Each Right table
cases = each table table_computes

-- So is the example's, which is the first.
pub example_reads : Reads wide_lists example_sheet (read_in (ACCEPTED 2) filled_lists)
example_reads = cases.0
