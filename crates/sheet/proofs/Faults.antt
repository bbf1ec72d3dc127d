-- Which refusals the bytes of a sheet can meet. Rests on specs/Reading.antt.
use mathlib.Core.Bool.{Bool, true, false, cond}
use mathlib.Core.List.{List, [], ◌∷◌}
use Prim.Native.Nat.{ℕ, zero, suc, ◌+◌, ◌-◌, ◌*◌}
use lib.Dec.{T, eqb, ltb}
use lib.ListN.{length}
use Rattle.pattern.specs.Pattern.{has}
use Rattle.pattern.specs.Places.{at}
use Rattle.sheet.specs.Number.{Read, got, bad, byte, ended, number}
use Rattle.sheet.specs.Reading.{onward, number_that, many, size_test, count_test, size_at, row_at, count_at, column_at, columns_at, member_at, pair_at, order_at, record_read}
use Rattle.sheet.specs.Sheet.{past, grown, counted}

-- The numbers of the sheet's faults.
abbrev pub faults : List ℕ
faults = 1 ∷ 9 ∷ 10 ∷ 11 ∷ 12 ∷ []

-- A reading is refused by these alone.
abbrev pub Faulty : {A : Type 0} → Read A → Type 0
Faulty (got x next) = Unit
Faulty (bad n p) = T (has faults n)

onward_faulty : {A B : Type 0} (r : Read A) (go_on : A → ℕ → Read B) → Faulty r → ((x : A) (next : ℕ) → Faulty (go_on x next)) → Faulty (onward r go_on)
unfolding onward
onward_faulty (got x next) go_on f g = g x next
onward_faulty (bad n p) go_on f g = f

cond_faulty : {A : Type 0} (b : Bool) (r s : Read A) → Faulty r → Faulty s → Faulty (cond b r s)
cond_faulty true r s f g = f
cond_faulty false r s f g = g

module _ (bytes : List ℕ) where
  byte_faulty : (p q : ℕ) (go_on : ℕ → Read ℕ) → ((b : ℕ) → Faulty (go_on b)) → Faulty (byte bytes p q go_on)
  unfolding byte
  byte_faulty p q go_on f = cond_faulty (ltb q (length bytes)) (go_on (at bytes q)) (bad 9 p) (f (at bytes q)) tt

  ended_faulty : (p group value next : ℕ) → Faulty (ended p group value next)
  unfolding ended
  ended_faulty p group value next = cond_faulty (eqb group 0) (bad 10 p) (got value next) tt tt

  number_faulty : (p : ℕ) → Faulty (number bytes p)
  unfolding number
  number_faulty p =
      byte_faulty p p _ (λ a.
      cond_faulty (ltb a 128) (got a (p + 1)) _ tt
      (byte_faulty p (p + 1) _ (λ b.
      cond_faulty (ltb b 128) (ended p b (a - 128 + 128 * b) (p + 2)) _ (ended_faulty p b (a - 128 + 128 * b) (p + 2))
      (byte_faulty p (p + 2) _ (λ c.
      cond_faulty (ltb c 128) (ended p c (a - 128 + 128 * (b - 128) + 16384 * c) (p + 3)) (bad 10 p) (ended_faulty p c (a - 128 + 128 * (b - 128) + 16384 * c) (p + 3)) tt)))))

  number_that_faulty : (test : ℕ → Bool) (reply p : ℕ) → T (has faults reply) → Faulty (number_that bytes test reply p)
  unfolding number_that
  number_that_faulty test reply p f = onward_faulty (number bytes p) _ (number_faulty p) (λ v next. cond_faulty (test v) (got v next) (bad reply p) tt f)

  many_faulty : {A : Type 0} (one : ℕ → ℕ → Read A) (after : ℕ → A → ℕ) → ((s p : ℕ) → Faulty (one s p)) → (n s p : ℕ) → Faulty (many one after n s p)
  unfolding many
  many_faulty one after f zero s p = tt
  many_faulty one after f (suc n) s p =
      onward_faulty (one s p) _ (f s p) (λ x next. onward_faulty (many one after n (after s x) next) _ (many_faulty one after f n (after s x) next) (λ l end. tt))

  module _ (m : ℕ) where
    row_faulty : (least p : ℕ) → Faulty (row_at bytes m least p)
    unfolding row_at
    row_faulty least p =
        onward_faulty (number_that bytes (λ gap. ltb (least + gap) m) 11 p) _ (number_that_faulty (λ gap. ltb (least + gap) m) 11 p tt) (λ gap next. tt)

    column_faulty : (entries p : ℕ) → Faulty (column_at bytes m entries p)
    unfolding column_at
    column_faulty entries p =
        onward_faulty (count_at bytes m entries p) _ (number_that_faulty (count_test m entries) 11 p tt)
        (λ n next. many_faulty (row_at bytes m) past row_faulty n 0 next)

    pair_faulty : (t p : ℕ) → Faulty (pair_at bytes m t p)
    unfolding pair_at
    pair_faulty t p =
        onward_faulty (member_at bytes m p) _ (number_that_faulty (λ v. ltb v m) 11 p tt)
        (λ r q. onward_faulty (member_at bytes m q) _ (number_that_faulty (λ v. ltb v m) 11 q tt) (λ c next. tt))

  pub record_faulty : Faulty (record_read bytes)
  unfolding record_read
  record_faulty =
      onward_faulty (size_at bytes 0) _ (number_that_faulty size_test 1 0 tt) (λ m p.
      onward_faulty (columns_at bytes m p) _ (many_faulty (column_at bytes m) grown (column_faulty m) m 0 p) (λ P q.
      onward_faulty (order_at bytes m q) _ (many_faulty (pair_at bytes m) counted (pair_faulty m) m 0 q) (λ o end.
      cond_faulty (eqb end (length bytes)) (got (record { size = m; columns = P; order = o }) end) (bad 12 end) tt tt)))
