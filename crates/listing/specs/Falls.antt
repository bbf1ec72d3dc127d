-- Where the numbers of a list fall, for the contracts of the steps of `formed`: counted over the whole list, and at the starts of
-- a listing's parts. Rests on Listing.antt.
use Rattle.std.specs.Prelude.{cond, List, ℕ, zero, suc, ◌+◌, ◌-◌, ◌<◌, leb, ltb}
use Rattle.pattern.specs.Places.{at}
use Rattle.pattern.specs.Rising.{Rising}
use Rattle.listing.specs.Listing.{part}

-- 1 where the number at a place is not more than the one before it, and else 0. The first number has none before it.
unfoldable pub fall : List ℕ → ℕ → ℕ
fall l zero = 0
fall l (suc k) = cond (leb (at l (suc k)) (at l k)) 1 0

-- The same of the first number of part `k`, and 0 where the part has none.
unfoldable pub fall_at_start : List ℕ → List ℕ → ℕ → ℕ
fall_at_start starts entries k = cond (ltb (at starts k) (at starts (k + 1))) (fall entries (at starts k)) 0

-- The last number of each of the `m` parts that has one is below `m`.
abbrev pub EndsBelow : ℕ → List ℕ → List ℕ → Type 0
EndsBelow m starts entries = (k : ℕ) → k < m → at starts k < at starts (k + 1) → at entries (at starts (k + 1) - 1) < m

-- The numbers of each of the `m` parts are below `m` and strictly rise.
abbrev pub PartsRise : ℕ → List ℕ → List ℕ → Type 0
PartsRise m starts entries = (k : ℕ) → k < m → Rising m (part starts entries k)
