-- What was read is well formed: rows rise, columns make a pattern, and the order's numbers are in range. Rests on Readings.antt.
use mathlib.Core.List.{List, []}
use mathlib.Core.Logic.{⊎_elim}
use mathlib.Core.Path.{◌≡◌, sym, ap}
use Prim.Native.Nat.{ℕ, zero, suc, ◌+◌, ◌≤◌, ◌<◌}
use native.Mathlib.Omega.{arith}
use lib.Dec.{T}
use lib.ListN.{length, get_or, length-append, get_or-map}
use Rattle.pattern.specs.Flat.{flat}
use Rattle.pattern.specs.Pattern.{has, column}
use Rattle.pattern.specs.Places.{at}
use Rattle.pattern.specs.Rising.{Rising}
use Rattle.pattern.proofs.Rises.{rising_none, rising_front}
use Rattle.pattern.proofs.Tests.{has_cases}
use Rattle.pattern.proofs.Turning.{Columns}
use Rattle.listing.specs.Limits.{max_total}
use Rattle.sheet.specs.Number.{Read, got}
use Rattle.sheet.specs.Reading.{many, row_at, rows_at, column_at, columns_at, pair_at, order_at}
use Rattle.sheet.specs.Sheet.{firsts, seconds, past, grown, counted}
use Rattle.sheet.proofs.Readings.{thing_same, many_next, many_length, row_got, column_got, member_got, pair_got}

-- A thing was read at some place.
record Somewhere {A : Type 0} (one : ℕ → ℕ → Read A) (x : A) : Type 0 where
  pub known : ℕ
  pub place : ℕ
  pub next : ℕ
  pub read : one known place ≡ got x next

module _ {A : Type 0} (one : ℕ → ℕ → Read A) (after : ℕ → A → ℕ) where
  many_each : (n s p : ℕ) {L : List A} {end : ℕ} → many one after n s p ≡ got L end → (j : ℕ) (d : A) → j < n → Somewhere one (get_or L j d)
  many_each zero s p e j d h = absurd (omega arith)
  many_each (suc n) s p e zero d h =
      let b = many_next one after n s p e in
      rw b.is (record { known = s; place = p; next = b.middle; read = b.first_got })
  many_each (suc n) s p e (suc j) d h =
      let b = many_next one after n s p e in
      rw b.is (many_each n (after s b.first) b.middle b.rest_got j d (omega arith))

module _ (bytes : List ℕ) where
  module _ (m : ℕ) where
    -- Rows rise, and none is below the least that the first can be.
    rows_rise : (n least p : ℕ) {l : List ℕ} {end : ℕ} → many (row_at bytes m) past n least p ≡ got l end → Rising m l × ((r : ℕ) → T (has l r) → least ≤ r)
    unfolding many
    rows_rise zero least p e = let z = sym (thing_same e) in rw z (rising_none, λ r h. absurd h)
    rows_rise (suc n) least p e =
        let b = many_next (row_at bytes m) past n least p e in
        let x = row_got bytes m least p b.first_got in
        let a = rows_rise n (b.first + 1) b.middle b.rest_got in
        rw b.is (
          rising_front x.below (λ r h. omega (arith, a.1 r h)) a.0,
          λ r h. ⊎_elim (λ z. omega (arith, x.is)) (λ u. omega (arith, x.is, a.1 r u)) (has_cases b.first r b.rest h),
        )

    pub rows_rising : (n p : ℕ) {l : List ℕ} {end : ℕ} → rows_at bytes m n p ≡ got l end → Rising m l
    rows_rising n p e = (rows_rise n 0 p e).0

    -- The entries of columns are few.
    columns_few : (n entries p : ℕ) {P : List (List ℕ)} {end : ℕ} → entries ≤ max_total → many (column_at bytes m) grown n entries p ≡ got P end → entries + length (flat P) ≤ max_total
    unfolding many
    columns_few zero entries p h e = omega (arith, ap (λ (P : List (List ℕ)). length (flat P)) (thing_same e))
    columns_few (suc n) entries p h e =
        let b = many_next (column_at bytes m) grown n entries p e in
        omega (
          arith,
          ap (λ (P : List (List ℕ)). length (flat P)) b.is,
          length-append b.first (flat b.rest),
          columns_few n (entries + length b.first) b.middle (column_got bytes m entries p b.first_got).few b.rest_got,
        )

    module _ (p : ℕ) {P : List (List ℕ)} {end : ℕ} (e : columns_at bytes m p ≡ got P end) where
      pub columns_formed : Columns m P
      columns_formed =
          record {
            size = many_length (column_at bytes m) grown m 0 p e;
            rise = λ c h.
                let a = many_each (column_at bytes m) grown m 0 p e c [] h in
                let b = column_got bytes m a.known a.place a.read in
                rows_rising (length (column P c)) b.middle b.rows_read;
          }

      pub total_few : length (flat P) ≤ max_total
      total_few = omega (arith, columns_few m 0 p (omega arith) e)

    module _ (p : ℕ) {o : List (ℕ × ℕ)} {end : ℕ} (e : order_at bytes m p ≡ got o end) where
      pub order_long : length o ≡ m
      order_long = many_length (pair_at bytes m) counted m 0 p e

      pub order_below : (t : ℕ) → t < m → (at (firsts o) t < m) × (at (seconds o) t < m)
      order_below t h =
          let a = many_each (pair_at bytes m) counted m 0 p e t (0, 0) h in
          let b = pair_got bytes m a.known a.place a.read in (
            omega (arith, get_or-map (λ (p : ℕ × ℕ). p.0) o t (0, 0), (member_got bytes m a.place b.row_read).1),
            omega (arith, get_or-map (λ (p : ℕ × ℕ). p.1) o t (0, 0), (member_got bytes m b.middle b.column_read).1),
          )
