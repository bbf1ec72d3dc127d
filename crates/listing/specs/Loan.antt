-- What stands in the lists of a listing that are lent to be written, and that they are still the lender's own. Rests on
-- Listing.antt and Held.antt.
use Rattle.std.specs.Prelude.{List, ◌≡◌, ℕ}
use Rattle.listing.specs.Held.{Held}
use Rattle.listing.specs.Listing.{parts, Good}
use Rattle.listing.specs.declared.listed_mut.ListedMut.{ListedMut}

-- The numbers of each of its `m` parts.
abbrev pub parts_in : ℕ → ListedMut → List (List ℕ)
parts_in m l = parts m l.starts.now l.entries.now

-- It may be read.
abbrev pub GoodIn : ℕ → ListedMut → Type 0
GoodIn m l = Good m l.starts.now l.entries.now

-- Neither list has been exchanged for another: what was written was written to the lender's.
pub record SameListed (old new : ListedMut) : Type 0 where
  pub starts : new.starts.ghost_name ≡ old.starts.ghost_name
  pub entries : new.entries.ghost_name ≡ old.entries.ghost_name

-- And they hold the listing of the parts `P`, and past it what they held before.
pub record Holds (P : List (List ℕ)) (old new : ListedMut) : Type 0 where
  pub same : SameListed old new
  pub held : Held P old.starts.now old.entries.now new.starts.now new.entries.now
