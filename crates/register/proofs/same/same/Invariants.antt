-- `same`: the columns before j have been read; what the cursors then say.
use mathlib.Core.Path.{◌≡◌}
use lib.ListN.{length}
use Rattle.pattern.specs.Places.{at}
use Rattle.pattern.specs.Turned.{row_of}
use Rattle.listing.specs.Formed.{parts_of}
use Rattle.listing.specs.Limits.{max_size}
use Rattle.register.specs.Order.{Tops}
use Rattle.register.proofs.Passing.{Passed}
use Rattle.register.proofs.same.same.Given as goal

abbrev pub invariant-loop-j : goal.invariant-loop-j
invariant-loop-j l =
    (length l.tops ≡ max_size) × Passed l.columns.size (at l.rows.starts.now) l.rows.entries.now (λ r. row_of (parts_of l.columns) r l.j) l.next × Tops l.j l.places (parts_of l.columns) l.tops
