-- A sheet that is accepted is the one that is written of what was read: so no two accepted sheets read as one record.
-- Rests on NumberBack.antt, SeriesBack.antt and Layouts.antt.
use mathlib.Core.List.{List, ◌++◌, append_assoc, append-nil}
use mathlib.Core.Path.{◌≡◌, sym, ap, ◌∙◌}
use Prim.Native.Nat.{ℕ, ◌-◌}
use native.Mathlib.Omega.{arith}
use lib.ListN.{length, drop}
use lib.Seq.{drop-length}
use Rattle.sheet.specs.Number.{groups, Bytes, got, number}
use Rattle.sheet.specs.Reading.{row_at, column_at, pair_at, record_read}
use Rattle.sheet.specs.Sheet.{Record, past, grown, counted, row_bytes, rows_bytes, column_bytes, columns_bytes, pair_bytes, order_bytes, sheet}
use Rattle.sheet.proofs.Layouts.{laid_out}
use Rattle.sheet.proofs.NumberBack.{number_read}
use Rattle.sheet.proofs.Readings.{size_got, row_got, count_got, column_got, member_got, pair_got}
use Rattle.sheet.proofs.SeriesBack.{series_read}

-- The bytes go on with these from a place on, up to another.
abbrev On : (bytes : List ℕ) (p : ℕ) (l : List ℕ) (next : ℕ) → Type 0
On bytes p l next = drop p bytes ≡ l ++ drop next bytes

-- One after the other.
both_on : (bytes : List ℕ) (p q next : ℕ) (k l : List ℕ) → On bytes p k q → On bytes q l next → On bytes p (k ++ l) next
both_on bytes p q next k l e f = e ∙ ap (λ (j : List ℕ). k ++ j) f ∙ sym (append_assoc k l (drop next bytes))

module _ (bytes : List ℕ) (B : Bytes bytes) where
  number_on : (p v next : ℕ) → number bytes p ≡ got v next → On bytes p (groups v) next
  number_on p v next e = (number_read bytes p B e).on

  module _ (m : ℕ) where
    row_on : (least p r next : ℕ) → row_at bytes m least p ≡ got r next → On bytes p (row_bytes least r) next
    row_on least p r next e =
        let g = row_got bytes m least p e in
        let v : g.gap ≡ r - least = omega (arith, g.is) in
        number_on p g.gap next g.gap_got ∙ ap (λ (v : ℕ). groups v ++ drop next bytes) v

    column_on : (entries p : ℕ) (l : List ℕ) (next : ℕ) → column_at bytes m entries p ≡ got l next → On bytes p (column_bytes entries l) next
    column_on entries p l next e =
        let c = column_got bytes m entries p e in
        both_on bytes p c.middle next (groups (length l)) (rows_bytes l) (number_on p (length l) c.middle (count_got bytes m entries p c.count_read).0)
        (series_read bytes (row_at bytes m) row_bytes past row_on (length l) 0 c.middle c.rows_read)

    pair_on : (t p : ℕ) (x : ℕ × ℕ) (next : ℕ) → pair_at bytes m t p ≡ got x next → On bytes p (pair_bytes t x) next
    pair_on t p x next e =
        let g = pair_got bytes m t p e in
        both_on bytes p g.middle next (groups x.0) (groups x.1) (number_on p x.0 g.middle (member_got bytes m p g.row_read).0) (number_on g.middle x.1 next (member_got bytes m g.middle g.column_read).0)

  pub sheet_read : {x : Record} {end : ℕ} → record_read bytes ≡ got x end → bytes ≡ sheet x
  sheet_read {x} e =
      let L = laid_out bytes e in
      let m = x.size in
      let columns = series_read bytes (column_at bytes m) column_bytes grown (column_on m) m 0 L.0 L.2.columns_read in
      let order = series_read bytes (pair_at bytes m) pair_bytes counted (pair_on m) m 0 L.1 L.2.order_read in
      let n = length bytes in
      let C = columns_bytes x.columns in
      let O = order_bytes x.order in
      both_on bytes 0 L.0 n (groups m) (C ++ O) (number_on 0 m L.0 (size_got bytes 0 L.2.size_read).0) (both_on bytes L.0 L.1 n C O columns order)
      ∙ ap (λ (l : List ℕ). sheet x ++ l) (drop-length bytes)
      ∙ append-nil (sheet x)

-- Reading is injective.
pub sheet_one : (bytes bytes' : List ℕ) {x : Record} {end end' : ℕ} → Bytes bytes → Bytes bytes' → record_read bytes ≡ got x end → record_read bytes' ≡ got x end'
    → bytes ≡ bytes'
sheet_one bytes bytes' B B' e e' = sheet_read bytes B e ∙ sym (sheet_read bytes' B' e')
