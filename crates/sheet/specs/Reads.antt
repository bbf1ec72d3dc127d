-- What reading a sheet gives back, for every call. Rests on Reading.antt, Reply.antt, `listing` and `register`.
use Rattle.std.specs.Prelude.{Bool, List, ◌≡◌, ℕ}
use Rattle.pattern.specs.Ladder.{Unless}
use Rattle.listing.specs.Says.{Says}
use Rattle.register.specs.Takes.{Takes}
use Rattle.register.specs.Lent.{Lists}
use Rattle.sheet.specs.Number.{Read, got, bad}
use Rattle.sheet.specs.Reading.{record_read}
use Rattle.sheet.specs.Reply.{Reply, REFUSED, ACCEPTED, Finding, refused, found}
use Rattle.sheet.specs.Sheet.{Record, total, SoundRecord, held_record}

-- ---- The part that decides

-- Every fault of the bytes is a refusal; else the size, the total and whether the order is sound.
abbrev pub Finds : Read Record → Finding → Type 0
Finds (bad n p) f = f ≡ refused n p
Finds (got x end) f = (sound : Bool) × Says sound (SoundRecord x) × (f ≡ found x.size (total x) sound)

abbrev pub Examines : List ℕ → Finding → Type 0
Examines bytes = Finds (record_read bytes)

-- ---- The reader

-- The reply, and the lent lists as they are then.
pub record ReadIn : Type 0 where
  pub reply : Reply
  pub lists : Lists

abbrev pub read_in : Reply → Lists → ReadIn
read_in r l = record { reply = r; lists = l }

module _ (l : Lists) where
  -- What was read is refused with 2 where the lists have no room for it, and with 5 where its order is unsound. Else the lists
  -- hold it, and past what it uses what they held.
  abbrev pub Accepts : Record → ReadIn → Type 0
  Accepts x =
      Unless (Takes x.size (total x) l) (read_in (REFUSED 2) l)
      (Unless (SoundRecord x) (read_in (REFUSED 5) l)
      (λ o. o ≡ read_in (ACCEPTED x.size) (held_record x l)))

  -- Every fault of the bytes is a refusal, and changes nothing.
  abbrev pub ReadsAs : Read Record → ReadIn → Type 0
  ReadsAs (bad n p) o = o ≡ read_in (REFUSED n) l
  ReadsAs (got x end) o = Accepts x o

  abbrev pub Reads : List ℕ → ReadIn → Type 0
  Reads bytes = ReadsAs (record_read bytes)
