-- What a verdict changes in the lists, for the contracts of the steps of `verdicts`. Rests on Replace.antt, `judge` and `pattern`.
use Rattle.std.specs.Prelude.{List, ◌≡◌, ℕ, length, take}
use Rattle.pattern.specs.Places.{at}
use Rattle.pattern.specs.Verdict.{spiked_columns, cleared_columns, to_last}
use Rattle.register.specs.Lent.{Lists}
use Rattle.register.specs.Order.{Placed}
use Rattle.judge.specs.Call.{Call, asked}
use Rattle.replace.specs.Replace.{stored}

-- PERMUTED: the lists hold the spiked pattern, in the order whose rows and columns have these places.
abbrev pub PermutesLists : Call → (row_places col_places : List ℕ) → Lists → Type 0
PermutesLists a row_places col_places l =
    (rows cols : List ℕ) → length rows ≡ a.size → length cols ≡ a.size → Placed a.size (at rows) row_places → Placed a.size (at cols) col_places
    → l ≡ stored a (spiked_columns (asked a)) rows cols

-- ELIMINATION: they hold the cleared pattern, in the old order with the pair of place `t` at the last place.
abbrev pub ClearsLists : Call → (t : ℕ) → Lists → Type 0
ClearsLists a t l = l ≡ stored a (cleared_columns (asked a)) (to_last t (take a.size a.lists.order_rows)) (to_last t (take a.size a.lists.order_cols))
