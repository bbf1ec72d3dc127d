-- From what the bytes alone decide to what the reader replies. Rests on specs/Reads.antt and Lefts.antt.
use mathlib.Core.Bool.{Bool, true}
use mathlib.Core.Path.{◌≡◌, refl, sym, ◌∙◌, subst, subst₂}
use Prim.Native.Nat.{ℕ}
use native.Mathlib.Omega.{arith}
use Rattle.pattern.specs.Ladder.{holds}
use Rattle.listing.specs.Says.{Says}
use Rattle.register.specs.Takes.{Takes}
use Rattle.register.specs.Lent.{Lists}
use Rattle.sheet.specs.Number.{Read, got, bad}
use Rattle.sheet.specs.Passes.{thing, Got, blank}
use Rattle.sheet.specs.Reads.{Finds, ReadIn, read_in, Accepts, ReadsAs}
use Rattle.sheet.specs.Reply.{ACCEPTED, Finding, found}
use Rattle.sheet.specs.Sheet.{Record, total, SoundRecord, held_record}
use Rattle.sheet.proofs.Lefts.{got_is, thing_is}

-- What was found is of a record that was read.
pub record Found (r : Read Record) (m n : ℕ) (answer : Bool) : Type 0 where
  pub thing_read : Record
  pub end : ℕ
  pub is : r ≡ got thing_read end
  pub size : m ≡ thing_read.size
  pub entries : n ≡ total thing_read
  pub sound : Says answer (SoundRecord thing_read)

pub finds_found : (r : Read Record) {f : Finding} {m n : ℕ} {answer : Bool} → f ≡ found m n answer → Finds r f → Found r m n answer
finds_found (bad k q) e g = let z : ◌≡◌ {A = ℕ} 0 1 = cc (e, g) in absurd (omega arith)
finds_found (got x end) {f} {m} {n} {answer} e g =
    let same : found m n answer ≡ found x.size (total x) g.0 = sym e ∙ g.2 in
    let answers : answer ≡ g.0 = cc same in
    record { thing_read = x; end = end; is = refl; size = cc same; entries = cc same; sound = rw answers g.1 }

module _ {r : Read Record} {m n : ℕ} {answer : Bool} (F : Found r m n answer) (l : Lists) where
  abbrev x : Record
  x = F.thing_read

  accepts : {o : ReadIn} → Accepts l x o → ReadsAs l r o
  accepts {o} a = subst (λ (r : Read Record). ReadsAs l r o) (sym F.is) a

  room : Takes m n l → Takes x.size (total x) l
  room t = subst₂ (λ (a b : ℕ). Takes a b l) F.size F.entries t

  -- They have room, and the record may be put into them.
  pub reads_room : Takes m n l → Got blank r × Takes (thing blank r).size (total (thing blank r)) l
  reads_room t = (got_is blank F.is, rw (thing_is blank F.is) (room t))

  -- And its order is sound: the lists hold the record.
  pub reads_accepted : {l' : Lists} → Takes m n l → answer ≡ true → l' ≡ held_record (thing blank r) l → ReadsAs l r (read_in (ACCEPTED m) l')
  reads_accepted t a h = accepts (holds (room t) (holds (F.sound.yes a) (cc (F.size, h, thing_is blank F.is))))
