-- What one pass over a sheet finds, for the contracts of the steps of reading. Rests on Reading.antt and `register`.
use Rattle.std.specs.Prelude.{List, [], ◌≡◌, ℕ, ◌<◌, length, Result, Ok, Err}
use Rattle.register.specs.Reply as register
use Rattle.sheet.specs.Number.{Read, got, bad, number}
use Rattle.sheet.specs.Reading.{onward, size_at, columns_at, order_at, record_read}
use Rattle.sheet.specs.Sheet.{Record, total}
use Rattle.sheet.specs.declared.Fault.{Fault}
use Rattle.sheet.specs.declared.scan.Scanned.{Scanned}

-- What is read, by a number that is made of it.
unfoldable pub gauged : {A : Type 0} → (A → ℕ) → Read A → Read ℕ
gauged f r = onward r (λ x next. got (f x) next)

-- What was read, and something else where that is refused.
unfoldable pub thing : {A : Type 0} → A → Read A → A
thing other (got x next) = x
thing other (bad n p) = other

-- It was not refused.
pub record Got {A : Type 0} (other : A) (r : Read A) : Type 0 where
  pub next : ℕ
  pub read : r ≡ got (thing other r) next

-- A number below 16,384 begins at place `p`, so it has one group or two.
pub record Short (bytes : List ℕ) (p : ℕ) : Type 0 where
  pub value : ℕ
  pub next : ℕ
  pub read : number bytes p ≡ got value next
  pub small : value < 16384

-- No record: what stands for one where a sheet is refused.
abbrev pub blank : Record
blank = record { size = 0; columns = []; order = [] }

-- A record as it lies in the bytes: the columns and the order begin at these places, and the order ends with the bytes.
pub record LaidOut (bytes : List ℕ) (x : Record) (columns order : ℕ) : Type 0 where
  pub size_read : size_at bytes 0 ≡ got x.size columns
  pub columns_read : columns_at bytes x.size columns ≡ got x.columns order
  pub order_read : order_at bytes x.size order ≡ got x.order (length bytes)

-- The first pass: the fault, or the size, the total and these two places.
abbrev pub Scans : List ℕ → Result Scanned Fault → Type 0
Scans bytes (Ok s) = (x : Record) × LaidOut bytes x s.columns s.order × (s.size ≡ x.size) × (s.total ≡ total x)
Scans bytes (Err fault) = record_read bytes ≡ bad (register.number fault.reply) fault.place
