-- What the list of the columns' greatest places says of an order. Rests on Orders.antt and `listing`.
use mathlib.Core.List.{List}
use mathlib.Core.Path.{◌≡◌, sym, ap, ◌∙◌}
use Prim.Native.Nat.{ℕ, ◌+◌, ◌-◌, ◌<◌}
use native.Mathlib.Omega.{arith}
use lib.ListN.{length}
use Rattle.pattern.specs.Order.{Sound}
use Rattle.pattern.specs.Pattern.{column, Entry}
use Rattle.pattern.specs.Places.{at}
use Rattle.listing.specs.Listing.{parts, Good}
use Rattle.listing.proofs.Between.{between_length}
use Rattle.listing.proofs.Listings.{part_is, good_within, good_columns}
use Rattle.register.specs.Order.{Placed, Tops, AtTop}
use Rattle.register.proofs.Orders.{topped_sound, sound_topped}

-- A column has as many rows as its starts say.
many : {m : ℕ} {cs cr : List ℕ} → Good m cs cr → (c : ℕ) → c < m → length (column (parts m cs cr) c) ≡ at cs (c + 1) - at cs c
many {m} {cs} {cr} G c h = ap length (part_is m cs cr c h) ∙ between_length (at cs c) (at cs (c + 1)) cr (good_within G c h).in_list

module _ {m : ℕ} {cs cr places tops : List ℕ} {row : ℕ → ℕ} (G : Good m cs cr) (L : Placed m row places)
    (A : Tops m places (parts m cs cr) tops) (col : ℕ → ℕ) where
  pub tops_sound : ((t : ℕ) → t < m → AtTop m cs tops (col t) t) → Sound (Entry (parts m cs cr)) m row col
  tops_sound top =
      topped_sound (good_columns G) L col
      (λ t h.
      let u = top t h in
      record {
        below = u.below;
        some = omega (arith, many G (col t) u.below, u.some);
        top = sym (A (col t) u.below) ∙ u.top;
      })

  pub sound_tops : Sound (Entry (parts m cs cr)) m row col → (t : ℕ) → t < m → AtTop m cs tops (col t) t
  sound_tops S t h =
      let u = sound_topped (good_columns G) L col S t h in
      record {
        below = u.below;
        some = omega (arith, many G (col t) u.below, u.some);
        top = A (col t) u.below ∙ u.top;
      }
