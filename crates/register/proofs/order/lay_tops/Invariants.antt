-- `lay_tops`: the greatest places of the columns before column c have been laid.
use mathlib.Core.Path.{◌≡◌}
use lib.ListN.{length}
use Rattle.listing.specs.Limits.{max_size}
use Rattle.listing.specs.Formed.{parts_of}
use Rattle.register.specs.Order.{Tops}
use Rattle.register.proofs.order.lay_tops.Given as goal

abbrev pub invariant-loop-c : goal.invariant-loop-c
invariant-loop-c l = (length l.tops ≡ max_size) × Tops l.c l.places (parts_of l.columns) l.tops
