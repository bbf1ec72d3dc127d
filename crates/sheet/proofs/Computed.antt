-- What a write and a read give back, by a computation: each call has a right outcome. Rests on `pattern`, `listing` and
-- `register`.
use mathlib.Core.Bool.{Bool, ◌&&◌}
use mathlib.Core.List.{List}
use mathlib.Core.Path.{refl}
use Prim.Native.Nat.{ℕ}
use lib.Dec.{leb, ltb}
use lib.ListN.{length}
use Rattle.pattern.specs.Places.{at}
use Rattle.listing.specs.Held.{over}
use Rattle.listing.specs.Says.{Says}
use Rattle.listing.proofs.Answers.{says_as}
use Rattle.register.specs.Takes.{Takes}
use Rattle.register.specs.Lent.{Lists, columns}
use Rattle.register.proofs.Decided.{sized, long, formed, agree, ordered, says_sized, says_long, says_formed, says_agree, says_ordered}
use Rattle.register.proofs.Deciding.{says_most, says_below, says_both, checked, checked_right}
use Rattle.sheet.specs.Number.{Read, got, bad}
use Rattle.sheet.specs.Reading.{record_read}
use Rattle.sheet.specs.Reads.{ReadIn, read_in, ReadsAs, Reads}
use Rattle.sheet.specs.Reply.{REFUSED, ACCEPTED}
use Rattle.sheet.specs.Sheet.{Record, firsts, seconds, record_of, total, held_record, sheet}
use Rattle.sheet.specs.Writes.{WrittenOut, written_out, Writes}

-- ---- Writing

module _ (m : ℕ) (l : Lists) (bytes : List ℕ) where
  -- A refusal by its number.
  abbrev refusal : ℕ → WrittenOut
  refusal n = written_out (REFUSED n) bytes

  -- What comes of each check and those after it.
  abbrev from_8 : WrittenOut
  from_8 = checked (leb (length (sheet (record_of m l))) (length bytes)) (refusal 8) (written_out (ACCEPTED (length (sheet (record_of m l)))) (over (sheet (record_of m l)) bytes))

  abbrev from_5 : WrittenOut
  from_5 = checked (ordered (columns m l) m (at l.order_rows) (at l.order_cols)) (refusal 5) from_8

  abbrev from_4 : WrittenOut
  from_4 = checked (agree m l) (refusal 4) from_5

  abbrev from_3 : WrittenOut
  from_3 = checked (formed m l) (refusal 3) from_4

  abbrev from_2 : WrittenOut
  from_2 = checked (long m l) (refusal 2) from_3

  unfoldable pub written_of : WrittenOut
  written_of = checked (sized m) (refusal 1) from_2

  pub written_right : Writes m l bytes written_of
  unfolding written_of
  written_right =
      checked_right (sized m) from_2 (says_sized m) (λ p.
      checked_right (long m l) from_3 (says_long m l) (λ q.
      checked_right (formed m l) from_4 (says_formed m l) (λ f.
      checked_right (agree m l) from_5 (says_agree m l f) (λ g.
      checked_right (ordered (columns m l) m (at l.order_rows) (at l.order_cols)) from_8 (says_ordered (columns m l) m (at l.order_rows) (at l.order_cols)) (λ t.
      checked_right (leb (length (sheet (record_of m l))) (length bytes)) _ (says_most (length (sheet (record_of m l))) (length bytes)) (λ h. refl))))))

-- ---- Reading

unfoldable pub taking : (m total : ℕ) (l : Lists) → Bool
taking m n l =
    ltb m (length l.col_starts) && (leb n (length l.col_rows) && (ltb m (length l.row_starts) && (leb n (length l.row_cols)
    && (leb m (length l.order_rows) && leb m (length l.order_cols)))))

says_taking : (m n : ℕ) (l : Lists) → Says (taking m n l) (Takes m n l)
unfolding taking
says_taking m n l =
    says_as
    (λ u. record { col_starts_fit = u.0; col_rows_fit = u.1.0; row_starts_fit = u.1.1.0; row_cols_fit = u.1.1.1.0; order_rows_fit = u.1.1.1.1.0; order_cols_fit = u.1.1.1.1.1 })
    (λ s. (s.col_starts_fit, (s.col_rows_fit, (s.row_starts_fit, (s.row_cols_fit, (s.order_rows_fit, s.order_cols_fit))))))
    (says_both (ltb m (length l.col_starts)) _ (says_below m (length l.col_starts))
    (says_both (leb n (length l.col_rows)) _ (says_most n (length l.col_rows))
    (says_both (ltb m (length l.row_starts)) _ (says_below m (length l.row_starts))
    (says_both (leb n (length l.row_cols)) _ (says_most n (length l.row_cols))
    (says_both (leb m (length l.order_rows)) (leb m (length l.order_cols)) (says_most m (length l.order_rows)) (says_most m (length l.order_cols)))))))

module _ (l : Lists) where
  abbrev not_read : ℕ → ReadIn
  not_read n = read_in (REFUSED n) l

  abbrev sound_read : Record → ReadIn
  sound_read x = checked (ordered x.columns x.size (at (firsts x.order)) (at (seconds x.order))) (not_read 5) (read_in (ACCEPTED x.size) (held_record x l))

  unfoldable pub taken : Read Record → ReadIn
  taken (bad n p) = not_read n
  taken (got x end) = checked (taking x.size (total x) l) (not_read 2) (sound_read x)

  pub taken_right : (r : Read Record) → ReadsAs l r (taken r)
  unfolding taken
  taken_right (bad n p) = refl
  taken_right (got x end) =
      checked_right (taking x.size (total x) l) (sound_read x) (says_taking x.size (total x) l) (λ t.
      checked_right (ordered x.columns x.size (at (firsts x.order)) (at (seconds x.order))) _ (says_ordered x.columns x.size (at (firsts x.order)) (at (seconds x.order))) (λ s. refl))

  unfoldable pub read_of : List ℕ → ReadIn
  read_of bytes = taken (record_read bytes)

  pub read_right : (bytes : List ℕ) → Reads l bytes (read_of bytes)
  unfolding read_of
  read_right bytes = taken_right (record_read bytes)
