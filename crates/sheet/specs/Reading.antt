-- A sheet read from a list of bytes, with its faults in reading order. Rests on Sheet.antt and `listing`.
use Rattle.std.specs.Prelude.{Bool, cond, ◌&&◌, List, [], ◌∷◌, ℕ, zero, suc, ◌+◌, eqb, ltb, leb, length}
use Rattle.listing.specs.Limits.{max_size, max_total}
use Rattle.sheet.specs.Number.{Read, got, bad, number}
use Rattle.sheet.specs.Sheet.{Record, past, grown, counted}

-- Reading goes on from what was got.
unfoldable pub onward : {A B : Type 0} → Read A → (A → ℕ → Read B) → Read B
onward (got x next) go_on = go_on x next
onward (bad n p) go_on = bad n p

-- `n` things one after another, as `series` writes them.
unfoldable pub many : {A : Type 0} (one : ℕ → ℕ → Read A) (after : ℕ → A → ℕ) (n s p : ℕ) → Read (List A)
many one after zero s p = got [] p
many one after (suc n) s p =
    onward (one s p) (λ x next.
    onward (many one after n (after s x) next) (λ l end. got (x ∷ l) end))

-- A size is 1 to 1,000.
abbrev pub size_test : ℕ → Bool
size_test m = ltb 0 m && leb m max_size

-- A count is at most `m`, and with it the entries so far are at most 12,000.
abbrev pub count_test : (m entries n : ℕ) → Bool
count_test m entries n = leb n m && leb (entries + n) max_total

module _ (bytes : List ℕ) where
  -- A number that must pass a test, and the refusal where it fails.
  unfoldable pub number_that : (ℕ → Bool) → (reply p : ℕ) → Read ℕ
  number_that test reply p = onward (number bytes p) (λ v next. cond (test v) (got v next) (bad reply p))

  abbrev pub size_at : ℕ → Read ℕ
  size_at = number_that size_test 1

  module _ (m : ℕ) where
    -- A row, by its distance from the least that it can be: it is below `m`.
    unfoldable pub row_at : (least p : ℕ) → Read ℕ
    row_at least p = onward (number_that (λ gap. ltb (least + gap) m) 11 p) (λ gap next. got (least + gap) next)

    -- The rows of a column, as many as its count says.
    abbrev pub rows_at : (n p : ℕ) → Read (List ℕ)
    rows_at n = many row_at past n 0

    abbrev pub count_at : (entries p : ℕ) → Read ℕ
    count_at entries = number_that (count_test m entries) 11

    -- A column: its count and then its rows.
    unfoldable pub column_at : (entries p : ℕ) → Read (List ℕ)
    column_at entries p = onward (count_at entries p) rows_at

    -- All columns.
    abbrev pub columns_at : ℕ → Read (List (List ℕ))
    columns_at = many column_at grown m 0

    -- A row or a column of the order is below `m`.
    abbrev pub member_at : ℕ → Read ℕ
    member_at = number_that (λ v. ltb v m) 11

    -- A place: its row and its column.
    unfoldable pub pair_at : (t p : ℕ) → Read (ℕ × ℕ)
    pair_at t p = onward (member_at p) (λ r q. onward (member_at q) (λ c next. got (r, c) next))

    -- All places.
    abbrev pub order_at : ℕ → Read (List (ℕ × ℕ))
    order_at = many pair_at counted m 0

  -- The whole: 12 where bytes remain after the last number, with the place of the first of them.
  unfoldable pub record_read : Read Record
  record_read =
      onward (size_at 0) (λ m p.
      onward (columns_at m p) (λ P q.
      onward (order_at m q) (λ pairs end.
      cond (eqb end (length bytes)) (got (record { size = m; columns = P; order = pairs }) end) (bad 12 end))))
