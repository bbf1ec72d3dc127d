-- A limit may be raised: a number, a row, a pair or rows that were read are read the same where more would pass.
-- Rests on Onward.antt and Readings.antt.
use mathlib.Core.Bool.{Bool, true}
use mathlib.Core.List.{List, ◌∷◌}
use mathlib.Core.Path.{◌≡◌, sym, ap, ◌∙◌}
use Prim.Native.Nat.{ℕ, zero, suc, ◌+◌, ◌≤◌, ◌<◌}
use native.Mathlib.Omega.{arith}
use lib.Dec.{ltb}
use borrow.Author.Tests.{lt-ltb}
use Rattle.sheet.specs.Number.{Read, got, number}
use Rattle.sheet.specs.Passes.{Short}
use Rattle.sheet.specs.Reading.{onward, number_that, many, row_at, member_at, pair_at}
use Rattle.sheet.specs.Sheet.{past}
use Rattle.sheet.proofs.Onward.{onward_on, pair_both}
use Rattle.sheet.proofs.Readings.{many_next, number_that_got, row_got, member_got, pair_got}

-- Many things are read the same where one is.
many_same : {A : Type 0} (one one' : ℕ → ℕ → Read A) (after : ℕ → A → ℕ) → ((s p : ℕ) (x : A) (next : ℕ) → one s p ≡ got x next → one' s p ≡ got x next)
    → (n s p : ℕ) {L : List A} {end : ℕ} → many one after n s p ≡ got L end → many one' after n s p ≡ got L end
unfolding many
many_same one one' after same zero s p e = e
many_same {A} one one' after same (suc n) s p {L} {end} e =
    let b = many_next one after n s p e in
    onward_on (λ x next. onward (many one' after n (after s x) next) (λ l end. got (x ∷ l) end)) (same s p b.first b.middle b.first_got)
    ∙ onward_on (λ l end. got (b.first ∷ l) end) (many_same one one' after same n (after s b.first) b.middle b.rest_got)
    ∙ ap (λ (l : List A). got l end) (sym b.is)

module _ (bytes : List ℕ) where
  number_passes : (test : ℕ → Bool) (reply p : ℕ) {v next : ℕ} → number bytes p ≡ got v next → test v ≡ true → number_that bytes test reply p ≡ got v next
  unfolding number_that onward
  number_passes test reply p e t = rw (e, t)

  -- A number that passed a test before is read as it is without the test.
  pub number_again : (test : ℕ → Bool) (reply p : ℕ) {v w next k : ℕ} → number_that bytes test reply p ≡ got w k → number bytes p ≡ got v next
      → number_that bytes test reply p ≡ got v next
  number_again test reply p e f = e ∙ sym (number_that_got bytes test reply p e).0 ∙ f

  -- One below 16,384.
  pub short : (p : ℕ) {v next : ℕ} → number bytes p ≡ got v next → v < 16384 → Short bytes p
  short p {v} {next} e h = record { value = v; next = next; read = e; small = h }

  -- A row, by the gap that was read.
  row_below : (m least p : ℕ) {gap next : ℕ} → number bytes p ≡ got gap next → least + gap < m → row_at bytes m least p ≡ got (least + gap) next
  unfolding row_at
  row_below m least p {gap} e h =
      onward_on (λ gap next. got (least + gap) next) (number_passes (λ gap. ltb (least + gap) m) 11 p e (lt-ltb (least + gap) m h))

  -- From the limit `m` to the limit `n`.
  module _ (m n : ℕ) (wide : m ≤ n) where
    row_wider : (least p : ℕ) {r next : ℕ} → row_at bytes m least p ≡ got r next → row_at bytes n least p ≡ got r next
    row_wider least p {r} {next} e =
        let g = row_got bytes m least p e in
        row_below n least p g.gap_got (omega (arith, g.is, g.below)) ∙ ap (λ (r : ℕ). got r next) (sym g.is)

    pub rows_wider : (k s p : ℕ) {L : List ℕ} {end : ℕ} → many (row_at bytes m) past k s p ≡ got L end → many (row_at bytes n) past k s p ≡ got L end
    rows_wider = many_same (row_at bytes m) (row_at bytes n) past (λ s p r next. row_wider s p)

    member_wider : (p : ℕ) {v next : ℕ} → member_at bytes m p ≡ got v next → member_at bytes n p ≡ got v next
    member_wider p {v} e = let g = member_got bytes m p e in number_passes (λ v. ltb v n) 11 p g.0 (lt-ltb v n (omega (arith, g.1)))

    pub pair_wider : (t p : ℕ) {x : ℕ × ℕ} {next : ℕ} → pair_at bytes m t p ≡ got x next → pair_at bytes n t p ≡ got x next
    pair_wider t p e =
        let g = pair_got bytes m t p e in
        pair_both bytes n t p (member_wider p g.row_read) (member_wider g.middle g.column_read)
