-- A sheet as a whole: how a record lies in the bytes. Rests on specs/Passes.antt, Onward.antt and Readings.antt.
use mathlib.Core.Bool.{cond}
use mathlib.Core.List.{List}
use mathlib.Core.Path.{◌≡◌, refl, ap, ◌∙◌, subst}
use Prim.Native.Nat.{ℕ}
use lib.Dec.{eqb}
use lib.ListN.{length}
use borrow.Author.Tests.{eqb-true}
use Rattle.pattern.proofs.Tests.{choose_same}
use Rattle.sheet.specs.Number.{Read, got, bad}
use Rattle.sheet.specs.Passes.{LaidOut}
use Rattle.sheet.specs.Reading.{onward, size_at, columns_at, order_at, record_read}
use Rattle.sheet.specs.Sheet.{Record}
use Rattle.sheet.proofs.Onward.{onward_on}
use Rattle.sheet.proofs.Readings.{thing_same, onward_got, passed}

module _ (bytes : List ℕ) where
  -- What is read after the order, after the columns, after the size.
  abbrev at_end : ℕ → List (List ℕ) → List (ℕ × ℕ) → ℕ → Read Record
  at_end m P pairs end = cond (eqb end (length bytes)) (got (record { size = m; columns = P; order = pairs }) end) (bad 12 end)

  abbrev from_order : ℕ → List (List ℕ) → ℕ → Read Record
  from_order m P q = onward (order_at bytes m q) (at_end m P)

  abbrev from_columns : ℕ → ℕ → Read Record
  from_columns m p = onward (columns_at bytes m p) (from_order m)

  module _ {m p : ℕ} (size : size_at bytes 0 ≡ got m p) where
    size_on : record_read bytes ≡ from_columns m p
    unfolding record_read
    size_on = onward_on from_columns size

    module _ {P : List (List ℕ)} {q : ℕ} (columns : columns_at bytes m p ≡ got P q) where
      columns_on : record_read bytes ≡ from_order m P q
      columns_on = size_on ∙ onward_on (from_order m) columns

      module _ {pairs : List (ℕ × ℕ)} {end : ℕ} (order : order_at bytes m q ≡ got pairs end) where
        order_on : record_read bytes ≡ at_end m P pairs end
        order_on = columns_on ∙ onward_on (at_end m P) order

        pub whole : end ≡ length bytes → record_read bytes ≡ got (record { size = m; columns = P; order = pairs }) end
        whole e = order_on ∙ choose_same end (length bytes) (got (record { size = m; columns = P; order = pairs }) end) (bad 12 end) e

  pub laid_out_read : {x : Record} {columns order : ℕ} → LaidOut bytes x columns order → record_read bytes ≡ got x (length bytes)
  laid_out_read l = whole l.size_read l.columns_read l.order_read refl

  module _ {x : Record} {end : ℕ} where
    lying : {m p : ℕ} {P : List (List ℕ)} {q : ℕ} {pairs : List (ℕ × ℕ)} {last : ℕ} → size_at bytes 0 ≡ got m p → columns_at bytes m p ≡ got P q
        → order_at bytes m q ≡ got pairs last → at_end m P pairs last ≡ got x end → LaidOut bytes x p q
    lying {m} {p} {P} {q} {pairs} {last} size columns order e =
        let t = passed (eqb last (length bytes)) (got (record { size = m; columns = P; order = pairs }) last) 12 last e in
        let n = eqb-true last (length bytes) t.0 in
        subst (λ (x : Record). LaidOut bytes x p q) (thing_same t.1)
        (record { size_read = size; columns_read = columns; order_read = order ∙ ap (got pairs) n })

    pub laid_out : record_read bytes ≡ got x end → (columns order : ℕ) × LaidOut bytes x columns order
    unfolding record_read
    laid_out e =
        let a = onward_got (size_at bytes 0) from_columns e in
        let b = onward_got (columns_at bytes a.first a.middle) (from_order a.first) a.second_got in
        let d = onward_got (order_at bytes a.first b.middle) (at_end a.first b.first) b.second_got in
        (a.middle, b.middle, lying {pairs = d.first} {last = d.middle} a.first_got b.first_got d.first_got d.second_got)
