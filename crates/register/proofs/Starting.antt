-- A start's column listing may be read, and the order t:t is what it is laid as. Rests on specs/Start.antt, `pattern` and `listing`.
use mathlib.Core.List.{List}
use mathlib.Core.Path.{◌≡◌, ap, ◌∙◌}
use Prim.Native.Nat.{ℕ, ◌≤◌, ◌<◌}
use native.Mathlib.Omega.{arith}
use Rattle.pattern.specs.Order.{Sound}
use Rattle.pattern.specs.Pattern.{Entry}
use Rattle.pattern.specs.Places.{at}
use Rattle.pattern.proofs.Each.{length_each, each_at}
use Rattle.pattern.proofs.Pairing.{sound_same}
use Rattle.listing.specs.Held.{over}
use Rattle.listing.specs.Limits.{Sized, max_size}
use Rattle.listing.specs.Listing.{Good, Listing}
use Rattle.listing.proofs.Holding.{over_new}
use Rattle.register.specs.Lent.{Lists, columns, Fresh}
use Rattle.register.specs.Start.{own_places, StartTakes, StartSound}

-- Each of the first places has its own number, where they have been given these.
pub own_at : {m : ℕ} {l : List ℕ} (old : List ℕ) → l ≡ over (own_places m) old → (t : ℕ) → t < m → at l t ≡ t
own_at {m} old e t h =
    ap (λ (l : List ℕ). at l t) e
    ∙ over_new (own_places m) old t (omega (arith, length_each (λ t. t) m))
    ∙ each_at (λ t. t) m t 0 h

module _ (m : ℕ) (l : Lists) where
  pub start_good : Sized m → StartTakes m l → Listing m l.col_starts l.col_rows → Good m l.col_starts l.col_rows
  start_good s t f = record { small = s.1; room = record { starts_long = t.col_starts_fit; entries_long = t.col_rows_fit }; formed = f }

  module _ {order : List ℕ} (small : m ≤ max_size) (F : Fresh order) where
    pub fresh_sound : Sound (Entry (columns m l)) m (at order) (at order) → StartSound m l
    fresh_sound = sound_same (λ t h. F.own t (omega arith)) (λ t h. F.own t (omega arith))
