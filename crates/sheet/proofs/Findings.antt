-- What the first pass over a sheet and the test of its order find together. Rests on Layouts.antt and specs/Reads.antt.
use mathlib.Core.Bool.{Bool}
use mathlib.Core.List.{List, []}
use mathlib.Core.Path.{◌≡◌, sym, subst}
use Prim.Native.Nat.{ℕ, ◌≤◌}
use native.Mathlib.Omega.{arith}
use lib.ListN.{length}
use Rattle.std.specs.Prelude.{Ok}
use Rattle.listing.specs.Limits.{max_size}
use Rattle.listing.specs.Says.{Says}
use Rattle.sheet.specs.Number.{Read, got}
use Rattle.sheet.specs.Passes.{thing, Got, Scans}
use Rattle.sheet.specs.Reading.{columns_at, order_at}
use Rattle.sheet.specs.Reads.{Finds, Examines}
use Rattle.sheet.specs.Reply.{found}
use Rattle.sheet.specs.Sheet.{Record, SoundRecord}
use Rattle.sheet.specs.declared.scan.Scanned.{Scanned}
use Rattle.sheet.proofs.Layouts.{laid_out_read}
use Rattle.sheet.proofs.Lefts.{got_is, thing_is}
use Rattle.sheet.proofs.Readings.{size_got}

module _ {bytes : List ℕ} {sheet : Scanned} (s : Scans bytes (Ok sheet)) where
  abbrev m : ℕ
  m = sheet.size

  scanned_columns : columns_at bytes m sheet.columns ≡ got s.0.columns sheet.order
  scanned_columns = rw s.2 s.1.columns_read

  scanned_order : order_at bytes m sheet.order ≡ got s.0.order (length bytes)
  scanned_order = rw s.2 s.1.order_read

  -- What the test of the order asks for.
  pub scanned_asked : (m ≤ max_size) × Got [] (columns_at bytes m sheet.columns) × Got [] (order_at bytes m sheet.order)
  scanned_asked = (omega (arith, (size_got bytes 0 s.1.size_read).2, s.2), got_is [] scanned_columns, got_is [] scanned_order)

  -- The record by what is read at the two places.
  abbrev again : Record
  again = record { size = m; columns = thing [] (columns_at bytes m sheet.columns); order = thing [] (order_at bytes m sheet.order) }

  again_is : again ≡ s.0
  again_is = λ i. record { size = s.2 i; columns = thing_is [] scanned_columns i; order = thing_is [] scanned_order i }

  pub finds_read : {b : Bool} → Says b (SoundRecord again) → Examines bytes (found m sheet.total b)
  finds_read {b} t =
      subst (λ (r : Read Record). Finds r (found m sheet.total b)) (sym (laid_out_read bytes s.1))
      (b, subst (λ (x : Record). Says b (SoundRecord x)) again_is t, cc (s.2, s.3))
