-- What the tests of a size and of a count say. Rests on specs/Reading.antt, `listing` and `register`.
use Prim.Native.Nat.{ℕ, ◌+◌, ◌≤◌, ◌<◌}
use lib.Dec.{ltb, leb}
use Rattle.listing.specs.Limits.{max_size, max_total}
use Rattle.listing.specs.Says.{Says}
use Rattle.register.proofs.Deciding.{says_below, says_most, says_both}
use Rattle.sheet.specs.Reading.{size_test, count_test}

pub size_says : (m : ℕ) → Says (size_test m) ((0 < m) × (m ≤ max_size))
size_says m = says_both (ltb 0 m) (leb m max_size) (says_below 0 m) (says_most m max_size)

pub count_says : (m entries n : ℕ) → Says (count_test m entries n) ((n ≤ m) × (entries + n ≤ max_total))
count_says m entries n = says_both (leb n m) (leb (entries + n) max_total) (says_most n m) (says_most (entries + n) max_total)
