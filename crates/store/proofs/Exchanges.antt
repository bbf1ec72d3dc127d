-- A column exchanged in a listing is one emptied and then filled: of parts, and in lists. Rests on specs/Store.antt and
-- `listing`.
use mathlib.Core.Bool.{Bool, true, false, cond}
use mathlib.Core.List.{List, []}
use mathlib.Core.Path.{◌≡◌, refl, sym, ap, ◌∙◌}
use Prim.Native.Nat.{ℕ, ◌+◌, ◌≤◌, ◌<◌}
use native.Mathlib.Omega.{arith}
use lib.Dec.{eqb}
use lib.ListN.{length}
use Rattle.pattern.specs.Flat.{flat, start_of, starts_of}
use Rattle.pattern.specs.Pattern.{column}
use Rattle.pattern.specs.Places.{at}
use Rattle.pattern.specs.Rising.{Rising}
use Rattle.pattern.proofs.Each.{length_each, each_at, each_same}
use Rattle.pattern.proofs.Flats.{each_start}
use Rattle.pattern.proofs.Rises.{rising_none}
use Rattle.pattern.proofs.Tallies.{tally_next, tally_less, flat_length}
use Rattle.pattern.proofs.Tests.{choose_same}
use Rattle.pattern.proofs.Turning.{Columns}
use Rattle.listing.specs.Held.{over, Held}
use Rattle.listing.specs.Limits.{max_total}
use Rattle.listing.specs.Listing.{parts, Good}
use Rattle.listing.proofs.Listings.{good_columns}
use Rattle.listing.proofs.Puts.{over_over}
use Rattle.listing.proofs.Readback.{held_entries_long, held_start, held_parts, held_good}
use Rattle.store.specs.Store.{without, left, emptied, filled, exchanged}
use Rattle.store.proofs.Without.{without_rises}

-- ---- A listing with column `c` exchanged for the numbers `a`, and without row `r`

module _ {m : ℕ} {P : List (List ℕ)} (c r : ℕ) (C : Columns m P) where
  pub exchanged_columns : {a : List ℕ} → Rising m a → Columns m (exchanged m P c r a)
  exchanged_columns {a} s = record { size = length_each f m; rise = λ k h. rw (each_at f m k [] h) (go k h (eqb k c)) }
    where
      f : ℕ → List ℕ
      f k = cond (eqb k c) a (without r (column P k))

      go : (k : ℕ) → k < m → (b : Bool) → Rising m (cond b a (without r (column P k)))
      go k h true = s
      go k h false = without_rises r (column P k) (C.rise k h)

  pub emptied_columns : Columns m (emptied m P c r)
  emptied_columns = exchanged_columns rising_none

module _ (m : ℕ) (P : List (List ℕ)) (c r : ℕ) where
  -- The emptied column has nothing.
  emptied_start : c < m → start_of (emptied m P c r) (c + 1) ≡ start_of (emptied m P c r) c
  emptied_start h =
      let e : length (left P c r c) ≡ 0 = ap length (choose_same c c [] (without r (column P c)) refl) in
      omega (arith, each_start (left P c r) m (c + 1) (omega arith), each_start (left P c r) m c (omega arith), tally_next (λ i. length (left P c r i)) c)

  module _ (new : List ℕ) where
    abbrev gets : ℕ → List ℕ
    gets k = cond (eqb k c) new (without r (column P k))

    emptied_few : start_of (emptied m P c r) m ≤ start_of (exchanged m P c r new) m
    emptied_few =
        omega (
          arith,
          each_start (left P c r) m m (omega arith),
          each_start gets m m (omega arith),
          tally_less (λ i. length (left P c r i)) (λ i. length (gets i)) m (λ k h. go k (eqb k c)),
        )
      where
        go : (k : ℕ) (b : Bool) → length (cond b [] (without r (column P k))) ≤ length (cond b new (without r (column P k)))
        go k true = omega arith
        go k false = omega arith

    -- Filled, it is the exchanged one.
    emptied_filled : filled m (emptied m P c r) c new ≡ exchanged m P c r new
    emptied_filled = each_same (λ k. cond (eqb k c) new (column (emptied m P c r) k)) gets m (λ k h. ap (cond (eqb k c) new) (each_at (left P c r) m k [] h) ∙ go k (eqb k c))
      where
        go : (k : ℕ) (b : Bool) → cond b new (cond b [] (without r (column P k))) ≡ cond b new (without r (column P k))
        go k true = refl
        go k false = refl

-- ---- One listing after another in the same lists

pub held_on : {m : ℕ} {P Q : List (List ℕ)} {starts entries starts' entries' starts'' entries'' : List ℕ} → length P ≡ m → length Q ≡ m → start_of P m ≤ start_of Q m
    → Held P starts entries starts' entries' → Held Q starts' entries' starts'' entries'' → Held Q starts entries starts'' entries''
held_on {m} {P} {Q} {starts} {entries} p q h H K =
    record {
      starts_after =
          K.starts_after
          ∙ ap (over (starts_of Q)) H.starts_after
          ∙ over_over (starts_of Q) (starts_of P) starts (omega (arith, length_each (start_of P) (length P + 1), length_each (start_of Q) (length Q + 1)));
      entries_after =
          K.entries_after
          ∙ ap (over (flat Q)) H.entries_after
          ∙ over_over (flat Q) (flat P) entries (omega (arith, flat_length P, flat_length Q, ap (start_of P) p, ap (start_of Q) q));
    }

-- ---- In lists

-- Column `c` of a good listing has been emptied, and there is room for the new rows in it.
pub record Emptied (m c r : ℕ) (new : List ℕ) (starts entries starts' entries' : List ℕ) : Type 0 where
  pub good : Good m starts entries
  pub in_size : c < m
  pub rise : Rising m new
  pub total : start_of (exchanged m (parts m starts entries) c r new) m ≤ max_total
  pub fits : start_of (exchanged m (parts m starts entries) c r new) m ≤ length entries
  pub held : Held (emptied m (parts m starts entries) c r) starts entries starts' entries'

module _ {m c r : ℕ} {new : List ℕ} {starts entries starts' entries' : List ℕ} (X : Emptied m c r new starts entries starts' entries') where
  abbrev P : List (List ℕ)
  P = parts m starts entries

  abbrev E : List (List ℕ)
  E = exchanged m P c r new

  first_fits : start_of (emptied m P c r) m ≤ length entries
  first_fits = omega (arith, emptied_few m P c r new, X.fits)

  first_size : length (emptied m P c r) ≡ m
  first_size = length_each (left P c r) m

  first_start : (k : ℕ) → k ≤ m → at starts' k ≡ start_of (emptied m P c r) k
  first_start = held_start first_size X.good.room.starts_long first_fits X.held

  pub emptied_good : Good m starts' entries'
  emptied_good =
      held_good first_size X.good.room.starts_long first_fits X.held (emptied_columns c r (good_columns X.good))
      (omega (arith, emptied_few m P c r new, X.total))
      X.good.small

  pub emptied_there : at starts' (c + 1) ≡ at starts' c
  emptied_there = first_start (c + 1) (omega (arith, X.in_size)) ∙ emptied_start m P c r X.in_size ∙ sym (first_start c (omega (arith, X.in_size)))

  -- Filled, it is the exchanged listing.
  to_fill : filled m (parts m starts' entries') c new ≡ E
  to_fill =
      ap (λ (Q : List (List ℕ)). filled m Q c new) (held_parts first_size X.good.room.starts_long first_fits X.held)
      ∙ emptied_filled m P c r new

  pub fill_total : start_of (filled m (parts m starts' entries') c new) m ≤ max_total
  fill_total = rw to_fill X.total

  pub fill_fits : start_of (filled m (parts m starts' entries') c new) m ≤ length entries'
  fill_fits = rw (to_fill, held_entries_long first_size X.good.room.starts_long first_fits X.held) X.fits

  module _ {starts'' entries'' : List ℕ} (K : Held (filled m (parts m starts' entries') c new) starts' entries' starts'' entries'') where
    pub exchanged_held : Held E starts entries starts'' entries''
    exchanged_held =
        held_on first_size (exchanged_columns c r (good_columns X.good) X.rise).size (emptied_few m P c r new) X.held (rw to_fill at K)
