-- `sweep`: the places from `from` up to t have been swept.
use mathlib.Core.Path.{◌≡◌}
use Prim.Native.Nat.{ℕ}
use lib.ListN.{length}
use Rattle.pattern.specs.Order.{Sound}
use Rattle.pattern.specs.Places.{at}
use Rattle.listing.specs.Formed.{parts_of}
use Rattle.register.specs.Marks.{flagged}
use Rattle.register.specs.Order.{Placed}
use Rattle.judge.specs.Reach.{ByRows, Swept}
use Rattle.judge.proofs.reach.sweep.Given as goal

abbrev pub invariant-loop-t : goal.invariant-loop-t
invariant-loop-t l =
    (length l.marks ≡ 1024)
    × ((col : ℕ → ℕ) (c : ℕ) → Placed l.rows.size col l.old → Sound (ByRows (parts_of l.rows)) l.rows.size (at l.order_rows) col → Swept l.rows.size (parts_of l.rows) (at l.order_rows) col c l.from (flagged l.initial.marks)
    → Swept l.rows.size (parts_of l.rows) (at l.order_rows) col c l.t (flagged l.marks))
