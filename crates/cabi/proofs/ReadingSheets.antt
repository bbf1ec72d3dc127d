-- The reply to a write and to a read is read off what C has: no refusal goes by 0. Rests on `pattern`, `register` and `sheet`.
use mathlib.Core.Bool.{cond}
use mathlib.Core.List.{List}
use mathlib.Core.Path.{◌≡◌, refl, sym, ap₂, ◌∙◌, subst}
use Prim.Native.Nat.{ℕ}
use lib.Dec.{T, eqb}
use borrow.Author.Tests.{ne_eqb}
use Rattle.pattern.specs.Pattern.{has}
use Rattle.pattern.proofs.Rungs.{unless_both}
use Rattle.register.specs.Lent.{Lists}
use Rattle.sheet.specs.Number.{Read, got, bad}
use Rattle.sheet.specs.Reading.{record_read}
use Rattle.sheet.specs.Reads.{ReadIn, read_in, ReadsAs, Reads}
use Rattle.sheet.specs.Reply.{Reply, REFUSED, ACCEPTED}
use Rattle.sheet.specs.Sheet.{Record}
use Rattle.sheet.specs.Writes.{WrittenOut, written_out, Writes}
use Rattle.sheet.proofs.Faults.{faults, Faulty, record_faulty}
use Rattle.cabi.specs.Sheets.{sheet_code, figure, GivesSheet, GivesRegister}

-- The reply that goes by a result and a figure.
unfoldable pub reply_of : (result figure : ℕ) → Reply
reply_of n k = cond (eqb n 0) (ACCEPTED k) (REFUSED n)

abbrev ReadBack : Reply → Type 0
ReadBack r = reply_of (sheet_code r) (figure r) ≡ r

-- ---- A write

module _ (m : ℕ) (l : Lists) (bytes : List ℕ) where
  write_back : {o : WrittenOut} → Writes m l bytes o → ReadBack o.reply
  unfolding reply_of
  write_back =
      unless_both Back refl (λ p.
      unless_both Back refl (λ q.
      unless_both Back refl (λ f.
      unless_both Back refl (λ g.
      unless_both Back refl (λ t.
      unless_both Back refl (λ h e. subst Back (sym e) refl))))))
    where
      Back : WrittenOut → Type 0
      Back o = ReadBack o.reply

  pub sheet_read_off : (n k : ℕ) (b : List ℕ) → GivesSheet m l bytes n k b → Writes m l bytes (written_out (reply_of n k) b)
  sheet_read_off n k b g =
      let same : g.reply ≡ reply_of n k = sym (write_back g.right) ∙ ap₂ reply_of (sym g.its_result) (sym g.its_count) in
      subst (λ (r : Reply). Writes m l bytes (written_out r b)) same g.right

-- ---- A read

-- A fault's number is not 0.
fault_back : (n : ℕ) → T (has faults n) → ReadBack (REFUSED n)
unfolding reply_of
fault_back n t = rw (ne_eqb n 0 (λ e. subst (λ (k : ℕ). T (has faults k)) e t))

module _ (l : Lists) where
  abbrev BackIn : ReadIn → Type 0
  BackIn o = ReadBack o.reply

  read_back : (o : ReadIn) (r : Read Record) → Faulty r → ReadsAs l r o → BackIn o
  unfolding reply_of
  read_back o (bad n p) f e = subst BackIn (sym e) (fault_back n f)
  read_back o (got x end) f u = unless_both BackIn refl (λ t. unless_both BackIn refl (λ s e. subst BackIn (sym e) refl)) u

  pub register_read_off : (bytes : List ℕ) (n m : ℕ) (l' : Lists) → GivesRegister l bytes n m l' → Reads l bytes (read_in (reply_of n m) l')
  register_read_off bytes n m l' g =
      let back = read_back (read_in g.reply l') (record_read bytes) (record_faulty bytes) g.right in
      let same : g.reply ≡ reply_of n m = sym back ∙ ap₂ reply_of (sym g.its_result) (sym g.its_size) in
      subst (λ (r : Reply). Reads l bytes (read_in r l')) same g.right
