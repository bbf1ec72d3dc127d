-- How a listing stands in lent lists that are longer than it needs. Rests on `pattern`.
use Rattle.std.specs.Prelude.{List, ◌++◌, ◌≡◌, ℕ, length, take, drop}
use Rattle.pattern.specs.Flat.{flat, starts_of}

-- `new` written over the beginning of a list, whose rest is kept.
abbrev pub over : List ℕ → List ℕ → List ℕ
over new old = new ++ drop (length new) old

-- `new` written over a list from place `k` on.
abbrev pub put : ℕ → List ℕ → List ℕ → List ℕ
put k new old = take k old ++ over new (drop k old)

-- Two lists hold the listing of the parts `P`, and past it what they held before.
pub record Held (P : List (List ℕ)) (starts entries starts' entries' : List ℕ) : Type 0 where
  pub starts_after : starts' ≡ over (starts_of P) starts
  pub entries_after : entries' ≡ over (flat P) entries
