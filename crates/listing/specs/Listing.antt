-- One listing in lent lists, by columns or by rows: the parts that are read off it, and when it is well formed.
-- Rests on Limits.antt and `pattern`.
use Rattle.std.specs.Prelude.{List, ◌≡◌, ℕ, ◌+◌, ◌-◌, ◌≤◌, ◌<◌, length, take, drop}
use Rattle.pattern.specs.Places.{at}
use Rattle.pattern.specs.Series.{each}
use Rattle.pattern.specs.Rising.{Rising}
use Rattle.listing.specs.Limits.{max_size, max_total}

-- What stands in a list from place `a` up to place `b`.
abbrev pub between : ℕ → ℕ → List ℕ → List ℕ
between a b l = take (b - a) (drop a l)

-- Part `k` of a listing, the rows of column `k` or the columns of row `k`: what stands from start `k` up to start `k + 1`.
abbrev pub part : List ℕ → List ℕ → ℕ → List ℕ
part starts entries k = between (at starts k) (at starts (k + 1)) entries

-- It lies within the entries.
pub record Within (starts entries : List ℕ) (k : ℕ) : Type 0 where
  pub no_fall : at starts k ≤ at starts (k + 1)
  pub in_list : at starts (k + 1) ≤ length entries

-- The `m` parts.
abbrev pub parts : ℕ → List ℕ → List ℕ → List (List ℕ)
parts m starts entries = each (part starts entries) m

-- The lists are long enough for a listing of `m` parts: there are `m + 1` starts, and an entry at each place before
-- the last start.
pub record Room (m : ℕ) (starts entries : List ℕ) : Type 0 where
  pub starts_long : m < length starts
  pub entries_long : at starts m ≤ length entries

-- `m + 1` starts: the first is 0, they never fall, and the last, the total, is at most 12,000.
pub record Starts (m : ℕ) (starts : List ℕ) : Type 0 where
  pub first : at starts 0 ≡ 0
  pub never_fall : (k : ℕ) → k < m → at starts k ≤ at starts (k + 1)
  pub total : at starts m ≤ max_total

-- A well-formed listing of `m` parts: its starts are right, and each part's numbers are below `m` and strictly rise.
pub record Listing (m : ℕ) (starts entries : List ℕ) : Type 0 where
  pub starts_right : Starts m starts
  pub rise : (k : ℕ) → k < m → Rising m (part starts entries k)

-- A listing that may be read: its size is in the limits, the lists are long enough, and it is well formed.
pub record Good (m : ℕ) (starts entries : List ℕ) : Type 0 where
  pub small : m ≤ max_size
  pub room : Room m starts entries
  pub formed : Listing m starts entries
