-- A register started from its column listing, in the order that pairs row t with column t: what comes back, for every call. Rests
-- on Lent.antt, `pattern` and `listing`.
use Rattle.std.specs.Prelude.{List, ◌≡◌, ℕ}
use Rattle.pattern.specs.Flat.{flat, starts_of}
use Rattle.pattern.specs.Ladder.{Unless}
use Rattle.pattern.specs.Order.{Sound}
use Rattle.pattern.specs.Pattern.{Entry}
use Rattle.pattern.specs.Places.{at}
use Rattle.pattern.specs.Series.{each}
use Rattle.pattern.specs.Turned.{turned}
use Rattle.listing.specs.Held.{over}
use Rattle.listing.specs.Limits.{Sized}
use Rattle.listing.specs.Listing.{Listing}
use Rattle.register.specs.Takes.{Takes}
use Rattle.register.specs.Lent.{Lists, lists, columns}

-- The number of the refusal, or 0, and the lent lists as they are then.
pub record Started : Type 0 where
  pub fault : ℕ
  pub lists : Lists

abbrev pub started : ℕ → Lists → Started
started n l = record { fault = n; lists = l }

-- The order t:t, of rows as of columns.
abbrev pub own_places : ℕ → List ℕ
own_places m = each (λ t. t) m

module _ (m : ℕ) (l : Lists) where
  -- The six lists have room for a register of as many entries as the column listing has.
  abbrev pub StartTakes : Type 0
  StartTakes = Takes m (at l.col_starts m) l

  -- The order t:t is sound for the columns.
  abbrev pub StartSound : Type 0
  StartSound = Sound (Entry (columns m l)) m (λ t. t) (λ t. t)

  -- The row listing is that of the columns, the order is t:t, and past these the lists hold what they held.
  abbrev pub start_lists : Lists
  start_lists =
      let Q = turned m (columns m l) in
      lists l.col_starts l.col_rows (over (starts_of Q) l.row_starts) (over (flat Q) l.row_cols) (over (own_places m) l.order_rows)
      (over (own_places m) l.order_cols)

  module _ {A : Type 0} (refused : ℕ → A) (rest : A → Type 0) where
    -- Checks 1, 2, 3 and 5, of the column listing alone.
    abbrev pub StartChecks : A → Type 0
    StartChecks =
        Unless (Sized m) (refused 1)
        (Unless StartTakes (refused 2)
        (Unless (Listing m l.col_starts l.col_rows) (refused 3)
        (Unless StartSound (refused 5)
        rest)))

  -- The number of the first fault, or 0.
  abbrev pub StartFault : ℕ → Type 0
  StartFault = StartChecks (λ n. n) (λ n. n ≡ 0)

  -- The outcome is right: a refusal changes nothing.
  abbrev pub StartsWith : Started → Type 0
  StartsWith = StartChecks (λ n. started n l) (λ o. o ≡ started 0 start_lists)
