-- Marks, which are kept as a list of flags. Rests on `listing`.
use Rattle.std.specs.Prelude.{Bool, false, List, ℕ, get_or, replicate}
use Rattle.listing.specs.Limits.{max_mark}
use Rattle.register.specs.declared.marks.Marks.{Marks}

-- Whether flag `i` of a list is set.
unfoldable pub flagged : List Bool → ℕ → Bool
flagged l i = get_or l i false

-- Whether the number `i` is marked.
unfoldable pub marked : Marks → ℕ → Bool
marked m i = flagged m.marks i

-- No number is.
unfoldable pub unmarked : Marks
unmarked = record { marks = replicate max_mark false }
