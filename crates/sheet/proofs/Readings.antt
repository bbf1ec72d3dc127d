-- What was read when a reading was not refused, step by step. Rests on specs/Reading.antt and Tests.antt.
use mathlib.Core.Bool.{Bool, true, false, cond}
use mathlib.Core.List.{List, ◌∷◌}
use mathlib.Core.Path.{◌≡◌, refl, sym, ap, ◌∙◌}
use Prim.Native.Nat.{ℕ, zero, suc, ◌+◌, ◌≤◌, ◌<◌}
use native.Mathlib.Omega.{arith}
use lib.Dec.{ltb}
use lib.ListN.{length}
use borrow.Author.Tests.{ltb-true}
use Rattle.listing.specs.Limits.{max_size, max_total}
use Rattle.sheet.specs.Number.{Read, got, bad, number}
use Rattle.sheet.specs.Passes.{thing}
use Rattle.sheet.specs.Reading.{onward, number_that, many, size_test, count_test, size_at, row_at, rows_at, count_at, column_at, member_at, pair_at}
use Rattle.sheet.specs.Sheet.{past}
use Rattle.sheet.proofs.Tests.{size_says, count_says}

-- ---- One thing, and one after another

pub thing_same : {A : Type 0} {x y : A} {n k : ℕ} → got x n ≡ got y k → x ≡ y
unfolding thing
thing_same {A} {x} e = ap (thing x) e

after_of : {A : Type 0} → Read A → ℕ
after_of (got x next) = next
after_of (bad n p) = 0

pub next_same : {A : Type 0} {x y : A} {n k : ℕ} → got x n ≡ got y k → n ≡ k
unfolding after_of
next_same e = ap after_of e

-- A refusal is not got.
pub not_got : {A X : Type 0} {x : A} {n k p : ℕ} → bad n p ≡ got x k → X
not_got e = let z : ◌≡◌ {A = ℕ} 0 1 = cc e in absurd (omega arith)

-- Two readings were got, one from where the other ended.
pub record Both {A B : Type 0} (r : Read A) (go_on : A → ℕ → Read B) (y : B) (end : ℕ) : Type 0 where
  pub first : A
  pub middle : ℕ
  pub first_got : r ≡ got first middle
  pub second_got : go_on first middle ≡ got y end

pub onward_got : {A B : Type 0} (r : Read A) (go_on : A → ℕ → Read B) {y : B} {end : ℕ} → onward r go_on ≡ got y end → Both r go_on y end
unfolding onward
onward_got (got x next) go_on e = record { first = x; middle = next; first_got = refl; second_got = e }
onward_got (bad n p) go_on e = not_got e

-- A test was passed.
pub passed : {A : Type 0} (test : Bool) (r : Read A) (reply p : ℕ) {y : A} {k : ℕ} → cond test r (bad reply p) ≡ got y k → (test ≡ true) × (r ≡ got y k)
passed true r reply p e = (refl, e)
passed false r reply p e = not_got e

-- ---- Many

-- The first of what was read, and the rest.
pub record Split {A : Type 0} (one : ℕ → ℕ → Read A) (after : ℕ → A → ℕ) (n s p : ℕ) (L : List A) (end : ℕ) : Type 0 where
  pub first : A
  pub rest : List A
  pub middle : ℕ
  pub is : L ≡ first ∷ rest
  pub first_got : one s p ≡ got first middle
  pub rest_got : many one after n (after s first) middle ≡ got rest end

module _ {A : Type 0} (one : ℕ → ℕ → Read A) (after : ℕ → A → ℕ) where
  pub many_next : (n s p : ℕ) {L : List A} {end : ℕ} → many one after (suc n) s p ≡ got L end → Split one after n s p L end
  unfolding many
  many_next n s p e =
      let b = onward_got (one s p) (λ x next. onward (many one after n (after s x) next) (λ l end. got (x ∷ l) end)) e in
      let c = onward_got (many one after n (after s b.first) b.middle) (λ l end. got (b.first ∷ l) end) b.second_got in
      record {
        first = b.first;
        rest = c.first;
        middle = b.middle;
        is = sym (thing_same c.second_got);
        first_got = b.first_got;
        rest_got = c.first_got ∙ ap (got c.first) (next_same c.second_got);
      }

  pub many_length : (n s p : ℕ) {L : List A} {end : ℕ} → many one after n s p ≡ got L end → length L ≡ n
  unfolding many
  many_length zero s p e = ap length (sym (thing_same e))
  many_length (suc n) s p e =
      let b = many_next n s p e in
      ap length b.is ∙ ap suc (many_length n (after s b.first) b.middle b.rest_got)

-- ---- Numbers

module _ (bytes : List ℕ) where
  -- A number that passed its test.
  pub number_that_got : (test : ℕ → Bool) (reply p : ℕ) {v next : ℕ} → number_that bytes test reply p ≡ got v next → (number bytes p ≡ got v next) × (test v ≡ true)
  unfolding number_that
  number_that_got test reply p e =
      let b = onward_got (number bytes p) (λ v next. cond (test v) (got v next) (bad reply p)) e in
      let t = passed (test b.first) (got b.first b.middle) reply p b.second_got in
      (b.first_got ∙ t.1, ap test (sym (thing_same t.1)) ∙ t.0)

  -- ---- The things of a sheet

  pub size_got : (p : ℕ) {m next : ℕ} → size_at bytes p ≡ got m next → (number bytes p ≡ got m next) × (1 ≤ m) × (m ≤ max_size)
  size_got p {m} e =
      let a = number_that_got size_test 1 p e in
      let t = (size_says m).yes a.1 in
      (a.0, t.0, t.1)

  module _ (m : ℕ) where
    -- A row: the gap that was read.
    pub record RowGot (least p r next : ℕ) : Type 0 where
      pub gap : ℕ
      pub is : r ≡ least + gap
      pub below : r < m
      pub gap_got : number bytes p ≡ got gap next

    pub row_got : (least p : ℕ) {r next : ℕ} → row_at bytes m least p ≡ got r next → RowGot least p r next
    unfolding row_at
    row_got least p {r} {next} e =
        let b = onward_got (number_that bytes (λ gap. ltb (least + gap) m) 11 p) (λ gap next. got (least + gap) next) e in
        let a = number_that_got (λ gap. ltb (least + gap) m) 11 p b.first_got in
        let z = thing_same b.second_got in
        record {
          gap = b.first;
          is = sym z;
          below = omega (arith, z, ltb-true (least + b.first) m a.1);
          gap_got = a.0 ∙ ap (got b.first) (next_same b.second_got);
        }

    pub count_got : (entries p : ℕ) {n next : ℕ} → count_at bytes m entries p ≡ got n next → (number bytes p ≡ got n next) × (n ≤ m) × (entries + n ≤ max_total)
    count_got entries p {n} e =
        let a = number_that_got (count_test m entries) 11 p e in
        let t = (count_says m entries n).yes a.1 in
        (a.0, t.0, t.1)

    -- A column: its count, and the rows from there.
    pub record ColumnGot (entries p : ℕ) (l : List ℕ) (next : ℕ) : Type 0 where
      pub middle : ℕ
      pub count_read : count_at bytes m entries p ≡ got (length l) middle
      pub rows_read : rows_at bytes m (length l) middle ≡ got l next
      pub few : entries + length l ≤ max_total

    pub column_got : (entries p : ℕ) {l : List ℕ} {next : ℕ} → column_at bytes m entries p ≡ got l next → ColumnGot entries p l next
    unfolding column_at
    column_got entries p {l} {next} e =
        let b = onward_got (count_at bytes m entries p) (rows_at bytes m) e in
        let n : length l ≡ b.first = many_length (row_at bytes m) past b.first 0 b.middle b.second_got in
        record {
          middle = b.middle;
          count_read = rw n b.first_got;
          rows_read = rw n b.second_got;
          few = rw n (count_got entries p b.first_got).2;
        }

    pub member_got : (p : ℕ) {v next : ℕ} → member_at bytes m p ≡ got v next → (number bytes p ≡ got v next) × (v < m)
    member_got p {v} e = let a = number_that_got (λ v. ltb v m) 11 p e in (a.0, ltb-true v m a.1)

    -- A pair: its row and its column.
    pub record PairGot (p : ℕ) (x : ℕ × ℕ) (next : ℕ) : Type 0 where
      pub middle : ℕ
      pub row_read : member_at bytes m p ≡ got x.0 middle
      pub column_read : member_at bytes m middle ≡ got x.1 next

    pub pair_got : (t p : ℕ) {x : ℕ × ℕ} {next : ℕ} → pair_at bytes m t p ≡ got x next → PairGot p x next
    unfolding pair_at
    pair_got t p {x} {next} e =
        let b = onward_got (member_at bytes m p) (λ r q. onward (member_at bytes m q) (λ c next. got (r, c) next)) e in
        let d = onward_got (member_at bytes m b.middle) (λ c next. got (b.first, c) next) b.second_got in
        let z = thing_same d.second_got in
        record {
          middle = b.middle;
          row_read = b.first_got ∙ ap (λ (x : ℕ × ℕ). got x.0 b.middle) z;
          column_read = d.first_got ∙ ap (λ (x : ℕ × ℕ). got x.1 d.middle) z ∙ ap (got x.1) (next_same d.second_got);
        }
