-- A listing that may be read: its parts, its total, and the listing turned. Rests on Listing.antt and `pattern`.
use Rattle.std.specs.Prelude.{List, ℕ}
use Rattle.pattern.specs.Places.{at}
use Rattle.pattern.specs.Turned.{turned}
use Rattle.listing.specs.Listing.{parts}
use Rattle.listing.specs.declared.formed.Formed.{Formed}

-- The numbers of each of its parts.
abbrev pub parts_of : Formed → List (List ℕ)
parts_of f = parts f.size f.listed.starts.now f.listed.entries.now

-- How many entries it has.
abbrev pub total_of : Formed → ℕ
total_of f = at f.listed.starts.now f.size

-- The columns of each row, where its parts are the rows of each column; and the other way round.
abbrev pub turned_of : Formed → List (List ℕ)
turned_of f = turned f.size (parts_of f)
