-- A register and its sheet are one record, both ways: a sheet that was written reads back as the same register, and a sheet that
-- was read is the one that would be written. Rests on SheetRead.antt, SheetWritten.antt and Records.antt.
use mathlib.Core.List.{List}
use mathlib.Core.Logic.{◌≢◌}
use mathlib.Core.Path.{◌≡◌, refl, sym, ap, ap₂, ◌∙◌, subst, subst₂}
use Prim.Native.Nat.{ℕ, ◌≤◌}
use native.Mathlib.Omega.{arith}
use lib.ListN.{length, take, drop}
use lib.Seq.{take-append_seam}
use Rattle.pattern.proofs.Rungs.{unless_past, unless_held}
use Rattle.listing.specs.Held.{over}
use Rattle.register.specs.Takes.{Takes}
use Rattle.register.specs.Lent.{Lists, rows, SoundLists}
use Rattle.register.proofs.Soundness.{checks_held, checks_past, rows_turned}
use Rattle.sheet.specs.Number.{Bytes, Read, got, bad}
use Rattle.sheet.specs.Reading.{record_read}
use Rattle.sheet.specs.Reads.{ReadIn, read_in, ReadsAs, Reads}
use Rattle.sheet.specs.Reply.{REFUSED, ACCEPTED}
use Rattle.sheet.specs.Sheet.{Record, record_of, total, held_record, sheet}
use Rattle.sheet.specs.Writes.{WrittenOut, written_out, Writes}
use Rattle.sheet.proofs.Accepted.{record_well}
use Rattle.sheet.proofs.Layouts.{laid_out}
use Rattle.sheet.proofs.Replies.{same_figure, not_both}
use Rattle.sheet.proofs.Records.{lists_well, lists_sound, held_back, held_rows, held_sound}
use Rattle.sheet.proofs.SheetRead.{sheet_read}
use Rattle.sheet.proofs.SheetWritten.{Well, sheet_written}

-- ---- Accepted writes

module _ (m : ℕ) (l : Lists) where
  abbrev its_sheet : List ℕ
  its_sheet = sheet (record_of m l)

  -- What an accepted write gives back.
  abbrev taken : List ℕ → WrittenOut
  taken bytes = written_out (ACCEPTED (length its_sheet)) (over its_sheet bytes)

  -- A write is accepted for a sound register and bytes with room for its sheet, and for no others.
  accepted_write : (bytes : List ℕ) (o : WrittenOut) (n : ℕ) → Writes m l bytes o → o.reply ≡ ACCEPTED n → SoundLists m l × (o ≡ taken bytes)
  accepted_write bytes o n w r =
      let s = checks_past (λ k. written_out (REFUSED k) bytes) (λ k h. other k) w in
      (s.0, (unless_past (other 8) s.1).1)
    where
      other : (k : ℕ) → o ≢ written_out (REFUSED k) bytes
      other k e = not_both (sym (ap (λ (o : WrittenOut). o.reply) e) ∙ r)

  pub sound_writes : (bytes : List ℕ) (o : WrittenOut) → SoundLists m l → length its_sheet ≤ length bytes → Writes m l bytes o → o ≡ taken bytes
  sound_writes bytes o s h w = unless_held h (checks_held (λ k. written_out (REFUSED k) bytes) s w)

-- ---- Written, then read

-- The lists hold the same register as those that were written from.
pub record SameRegister (m : ℕ) (l l' : Lists) : Type 0 where
  pub record_same : record_of m l' ≡ record_of m l
  pub rows_same : rows m l' ≡ rows m l

module _ (m : ℕ) (l : Lists) (bytes : List ℕ) (o : WrittenOut) (n : ℕ) (w : Writes m l bytes o) (r : o.reply ≡ ACCEPTED n)
    (l' : Lists) (R : Takes m (total (record_of m l)) l') (i : ReadIn) (g : Reads l' (take n o.bytes) i) where
  accepted : SoundLists m l × (o ≡ taken m l bytes)
  accepted = accepted_write m l bytes o n w r

  sound : SoundLists m l
  sound = accepted.0

  well : Well (record_of m l)
  well = lists_well sound

  sheet_taken : take n o.bytes ≡ its_sheet m l
  sheet_taken =
      let S = its_sheet m l in
      let k : n ≡ length S = same_figure (sym r ∙ ap (λ (o : WrittenOut). o.reply) accepted.1) in
      ap₂ (λ (n : ℕ) (b : List ℕ). take n b) k (ap (λ (o : WrittenOut). o.bytes) accepted.1) ∙ take-append_seam S (drop (length S) bytes)

  read_is : i ≡ read_in (ACCEPTED m) (held_record (record_of m l) l')
  read_is =
      unless_held (lists_sound sound) (unless_held R
      (subst (λ (r : Read Record). ReadsAs l' r i) (ap record_read sheet_taken ∙ sheet_written (record_of m l) well) g))

  pub write_reads_back : (i.reply ≡ ACCEPTED m) × SameRegister m l i.lists
  write_reads_back = (
    ap (λ (i : ReadIn). i.reply) read_is,
    record {
      record_same = ap (λ (i : ReadIn). record_of m i.lists) read_is ∙ held_back well R;
      rows_same = ap (λ (i : ReadIn). rows m i.lists) read_is ∙ held_rows well R ∙ sym (rows_turned sound);
    },
  )

-- ---- Read, then written

well_read : (bytes : List ℕ) {x : Record} {end : ℕ} → record_read bytes ≡ got x end → Well x
well_read bytes e = let L = laid_out bytes e in record_well L.2

pub record ReadWell (m : ℕ) (bytes : List ℕ) (l : Lists) : Type 0 where
  pub sound : SoundLists m l
  pub its_sheet : sheet (record_of m l) ≡ bytes

module _ (l : Lists) (bytes : List ℕ) (B : Bytes bytes) (i : ReadIn) (m : ℕ) (a : i.reply ≡ ACCEPTED m) where
  other : (k : ℕ) → i ≢ read_in (REFUSED k) l
  other k e = not_both (sym (ap (λ (i : ReadIn). i.reply) e) ∙ a)

  from_reading : (r : Read Record) → record_read bytes ≡ r → ReadsAs l r i → ReadWell m bytes i.lists
  from_reading (bad n p) z e = absurd (other n e)
  from_reading (got x end) z g =
      let t = unless_past (other 2) g in
      let s = unless_past (other 5) t.1 in
      let w = well_read bytes z in
      let k : x.size ≡ m = same_figure (sym (ap (λ (i : ReadIn). i.reply) s.1) ∙ a) in
      subst₂ (λ (m : ℕ) (l : Lists). ReadWell m bytes l) k (sym (ap (λ (i : ReadIn). i.lists) s.1))
      (record { sound = held_sound w t.0 s.0; its_sheet = ap sheet (held_back w t.0) ∙ sym (sheet_read bytes B z) })

  -- The register that was read is sound, and its sheet is the one that was read.
  pub read_well : Reads l bytes i → ReadWell m bytes i.lists
  read_well = from_reading (record_read bytes) refl

  -- Written into bytes with room, it gives the same bytes.
  pub read_writes_back : Reads l bytes i → (bytes' : List ℕ) (o : WrittenOut) → length bytes ≤ length bytes' → Writes m i.lists bytes' o
      → o ≡ written_out (ACCEPTED (length bytes)) (over bytes bytes')
  read_writes_back g bytes' o h w =
      let R = read_well g in
      subst (λ (S : List ℕ). o ≡ written_out (ACCEPTED (length S)) (over S bytes')) R.its_sheet
      (sound_writes m i.lists bytes' o R.sound (omega (arith, ap length R.its_sheet)) w)
