-- Falls counted over a whole listing: they are as many as those at the starts of parts exactly when no number falls inside a
-- part. Rests on specs/Falls.antt, Listings.antt and Rises.antt.
use mathlib.Core.Bool.{Bool, true, false, cond}
use mathlib.Core.List.{List}
use mathlib.Core.Logic.{⊎_elim}
use mathlib.Core.Path.{◌≡◌, refl, sym, ap, ◌∙◌}
use Prim.Native.Nat.{ℕ, zero, suc, ◌+◌, ◌-◌, ◌≤◌, ◌<◌}
use native.Mathlib.Decide.{dec_lt}
use native.Mathlib.Numerals.{add-one}
use native.Mathlib.Omega.{arith}
use lib.Dec.{leb}
use lib.ListN.{length}
use borrow.Author.Tests.{le-leb, lt-leb, lt-ltb, le-ltb, leb-false}
use Rattle.pattern.specs.Places.{at}
use Rattle.pattern.specs.Rising.{Rising}
use Rattle.pattern.specs.Series.{tally}
use Rattle.pattern.proofs.Climbing.{climbs}
use Rattle.pattern.proofs.Search.{last_or}
use Rattle.pattern.proofs.Tallies.{tally_none, tally_next, tally_more}
use Rattle.listing.specs.Falls.{fall, fall_at_start, EndsBelow, PartsRise}
use Rattle.listing.specs.Listing.{part, Room, Starts}
use Rattle.listing.proofs.Between.{between_length, between_at}
use Rattle.listing.proofs.Listings.{part_within}
use Rattle.listing.proofs.Rises.{rising_last}

-- ---- A place

-- The first number does not fall.
pub fall_first : (l : List ℕ) → fall l 0 ≡ 0
unfolding fall
fall_first l = refl

module _ (l : List ℕ) where
  pub fall_yes : (k : ℕ) → 1 ≤ k → at l k ≤ at l (k - 1) → fall l k ≡ 1
  unfolding fall
  fall_yes zero h e = absurd (omega arith)
  fall_yes (suc k) h e =
      let z : suc k - 1 ≡ k = omega arith in
      ap (λ (b : Bool). cond {A = ℕ} b 1 0) (le-leb (at l (suc k)) (at l k) (omega (arith, ap (at l) z)))

  pub fall_no : (k : ℕ) → at l (k - 1) < at l k → fall l k ≡ 0
  unfolding fall
  fall_no zero e = refl
  fall_no (suc k) e =
      let z : suc k - 1 ≡ k = omega arith in
      ap (λ (b : Bool). cond {A = ℕ} b 1 0) (lt-leb (at l (suc k)) (at l k) (omega (arith, ap (at l) z)))

  -- Where no fall is counted, the number is more than the one before.
  fall_none : (k : ℕ) → fall l (suc k) ≡ 0 → at l k < at l (suc k)
  unfolding fall
  fall_none k e = go (leb (at l (suc k)) (at l k)) refl
    where
      go : (b : Bool) → leb (at l (suc k)) (at l k) ≡ b → at l k < at l (suc k)
      go true t = let one : fall l (suc k) ≡ 1 = ap (λ (b : Bool). cond {A = ℕ} b 1 0) t in absurd (omega arith)
      go false t = leb-false (at l (suc k)) (at l k) t

  fall_few : (k : ℕ) → fall l k ≤ 1
  unfolding fall
  fall_few zero = omega arith
  fall_few (suc k) = go (leb (at l (suc k)) (at l k))
    where
      go : (b : Bool) → cond {A = ℕ} b 1 0 ≤ 1
      go true = omega arith
      go false = omega arith

  -- What was counted up to the last number, where there is one, is all.
  pub falls_all : (n : ℕ) {k sum : ℕ} → (n ≡ 0 → sum ≡ 0) → sum ≡ tally (fall l) k → (1 ≤ n → k ≡ n) → sum ≡ tally (fall l) n
  falls_all zero none counted end = none refl ∙ sym (tally_none (fall l))
  falls_all (suc n) none counted end = counted ∙ ap (tally (fall l)) (end (omega arith))

-- ---- The start of a part

module _ (starts entries : List ℕ) (k : ℕ) where
  pub start_some : at starts k < at starts (k + 1) → fall_at_start starts entries k ≡ fall entries (at starts k)
  unfolding fall_at_start
  start_some h = ap (λ (b : Bool). cond b (fall entries (at starts k)) 0) (lt-ltb (at starts k) (at starts (k + 1)) h)

  pub start_none : at starts (k + 1) ≤ at starts k → fall_at_start starts entries k ≡ 0
  unfolding fall_at_start
  start_none h = ap (λ (b : Bool). cond b (fall entries (at starts k)) 0) (le-ltb (at starts k) (at starts (k + 1)) h)

  pub start_first : at starts k ≡ 0 → fall_at_start starts entries k ≡ 0
  start_first e = go (dec_lt (at starts k) (at starts (k + 1)))
    where
      go : Dec (at starts k < at starts (k + 1)) → fall_at_start starts entries k ≡ 0
      go (yes h) = start_some h ∙ ap (fall entries) e ∙ fall_first entries
      go (no h) = start_none (omega arith)

  pub start_few : fall_at_start starts entries k ≤ 1
  start_few = go (dec_lt (at starts k) (at starts (k + 1)))
    where
      go : Dec (at starts k < at starts (k + 1)) → fall_at_start starts entries k ≤ 1
      go (yes h) = omega (arith, start_some h, fall_few entries (at starts k))
      go (no h) = omega (arith, start_none (omega arith))

-- ---- The whole listing

-- A sum goes on as it is where nothing is added.
tally_still : (f : ℕ → ℕ) (a b : ℕ) → a ≤ b → ((i : ℕ) → a ≤ i → i < b → f i ≡ 0) → tally f b ≡ tally f a
tally_still f a zero h z = ap (tally f) (omega arith)
tally_still f a (suc b) h z =
    ⊎_elim
    (λ u. ap (tally f) (sym (add-one b)) ∙ tally_next f b ∙ omega (arith, tally_still f a b (omega arith) (λ i l k. z i l (omega arith)), z b (omega arith) (omega arith)))
    (λ e. ap (tally f) (sym e))
    (last_or (suc b) a (omega arith))

module _ {m : ℕ} {starts entries : List ℕ} (R : Room m starts entries) (S : Starts m starts) where
  -- The falls before a place, and those at the starts of the parts before part `k`.
  abbrev before : ℕ → ℕ
  before n = tally (fall entries) n

  abbrev at_starts : ℕ → ℕ
  at_starts k = tally (fall_at_start starts entries) k

  -- No number of part `k` falls but the first.
  abbrev Flat : ℕ → Type 0
  Flat k = (i : ℕ) → at starts k < i → i < at starts (k + 1) → fall entries i ≡ 0

  -- Part `k` has as many falls as its start has, or more.
  step : (k : ℕ) → k < m → before (at starts k) + fall_at_start starts entries k ≤ before (at starts (k + 1))
  step k h = go (dec_lt (at starts k) (at starts (k + 1)))
    where
      go : Dec (at starts k < at starts (k + 1)) → before (at starts k) + fall_at_start starts entries k ≤ before (at starts (k + 1))
      go (yes u) =
          omega (arith, start_some starts entries k u, tally_next (fall entries) (at starts k), tally_more (fall entries) (at starts k + 1) (at starts (k + 1)) (omega arith))
      go (no u) = omega (arith, start_none starts entries k (omega arith), tally_more (fall entries) (at starts k) (at starts (k + 1)) (S.never_fall k h))

  -- It has as many exactly when it is flat.
  step_flat : (k : ℕ) → before (at starts (k + 1)) ≤ before (at starts k) + fall_at_start starts entries k → Flat k
  step_flat k e i a b =
      omega (
        arith,
        start_some starts entries k (omega arith),
        tally_next (fall entries) (at starts k),
        tally_more (fall entries) (at starts k + 1) i (omega arith),
        tally_next (fall entries) i,
        tally_more (fall entries) (i + 1) (at starts (k + 1)) (omega arith),
      )

  flat_step : (k : ℕ) → k < m → Flat k → before (at starts (k + 1)) ≡ before (at starts k) + fall_at_start starts entries k
  flat_step k h flat = go (dec_lt (at starts k) (at starts (k + 1)))
    where
      go : Dec (at starts k < at starts (k + 1)) → before (at starts (k + 1)) ≡ before (at starts k) + fall_at_start starts entries k
      go (yes u) =
          tally_still (fall entries) (at starts k + 1) (at starts (k + 1)) (omega arith) (λ i a b. flat i (omega arith) b)
          ∙ tally_next (fall entries) (at starts k)
          ∙ ap (λ (n : ℕ). before (at starts k) + n) (sym (start_some starts entries k u))
      go (no u) =
          let e : at starts (k + 1) ≡ at starts k = omega (arith, S.never_fall k h) in
          omega (arith, start_none starts entries k (omega arith), ap before e)

  -- So have the parts before part `k` together.
  starts_less : (k : ℕ) → k ≤ m → at_starts k ≤ before (at starts k)
  starts_less zero h = omega (arith, tally_none (fall_at_start starts entries))
  starts_less (suc k) h =
      omega (
        arith,
        ap at_starts (add-one k),
        tally_next (fall_at_start starts entries) k,
        starts_less k (omega arith),
        step k (omega arith),
        ap (at starts) (add-one k),
        ap (λ (n : ℕ). before (at starts n)) (add-one k),
      )

  flat_starts : ((k : ℕ) → k < m → Flat k) → (k : ℕ) → k ≤ m → before (at starts k) ≡ at_starts k
  flat_starts flat zero h = ap before S.first ∙ tally_none (fall entries) ∙ sym (tally_none (fall_at_start starts entries))
  flat_starts flat (suc k) h =
      ap (λ (n : ℕ). before (at starts n)) (sym (add-one k))
      ∙ flat_step k (omega arith) (flat k (omega arith))
      ∙ ap (λ (n : ℕ). n + fall_at_start starts entries k) (flat_starts flat k (omega arith))
      ∙ sym (tally_next (fall_at_start starts entries) k)
      ∙ ap at_starts (add-one k)

  -- Where all parts have as many, none has more.
  starts_flat : before (at starts m) ≡ at_starts m → (k : ℕ) → k < m → Flat k
  starts_flat e k h = step_flat k (omega (arith, most (k + 1) (omega arith), starts_less k (omega arith), tally_next (fall_at_start starts entries) k))
    where
      more : ℕ → ℕ
      more k = before (at starts k) - at_starts k

      most : (k : ℕ) → k ≤ m → before (at starts k) ≤ at_starts k
      most k h =
          let up = climbs more m (λ i u. omega (arith, step i u, tally_next (fall_at_start starts entries) i)) k m h (omega arith) in
          omega (arith, up)

  -- A part that is flat rises, where its last number is below the bound.
  module _ (k : ℕ) (h : k < m) where
    long : length (part starts entries k) ≡ at starts (k + 1) - at starts k
    long = between_length (at starts k) (at starts (k + 1)) entries (part_within R S k h).in_list

    number : (i : ℕ) → i < length (part starts entries k) → at (part starts entries k) i ≡ at entries (at starts k + i)
    number i b = between_at (at starts k) (at starts (k + 1)) entries i (omega (arith, long))

    flat_rises : Flat k → (at starts k < at starts (k + 1) → at entries (at starts (k + 1) - 1) < m) → Rising m (part starts entries k)
    flat_rises flat end = go (dec_lt (at starts k) (at starts (k + 1)))
      where
        up : (i : ℕ) → i + 1 < length (part starts entries k) → at (part starts entries k) i < at (part starts entries k) (i + 1)
        up i b =
            let z : suc (at starts k + i) ≡ at starts k + (i + 1) = omega arith in
            omega (
              arith,
              number i (omega arith),
              number (i + 1) b,
              ap (at entries) z,
              fall_none entries (at starts k + i) (flat (suc (at starts k + i)) (omega arith) (omega (arith, long))),
            )

        go : Dec (at starts k < at starts (k + 1)) → Rising m (part starts entries k)
        go (yes u) =
            let z : at starts k + (length (part starts entries k) - 1) ≡ at starts (k + 1) - 1 = omega (arith, long) in
            rising_last (part starts entries k) up
            (omega (arith, number (length (part starts entries k) - 1) (omega (arith, long)), ap (at entries) z, end u))
        go (no u) = record { below = λ i b. absurd (omega (arith, long)); rises = λ i b. absurd (omega (arith, long)) }

    module _ (s : Rising m (part starts entries k)) where
      rises_flat : Flat k
      rises_flat i a b =
          let j = i - at starts k - 1 in
          let x : at starts k + j ≡ i - 1 = omega arith in
          let y : at starts k + suc j ≡ i = omega arith in
          fall_no entries i
          (omega (arith, s.rises j (omega (arith, long)), number j (omega (arith, long)), number (suc j) (omega (arith, long)), ap (at entries) x, ap (at entries) y))

      rises_end : at starts k < at starts (k + 1) → at entries (at starts (k + 1) - 1) < m
      rises_end u =
          let n = length (part starts entries k) in
          let z : at starts k + (n - 1) ≡ at starts (k + 1) - 1 = omega (arith, long) in
          omega (arith, s.below (n - 1) (omega (arith, long)), number (n - 1) (omega (arith, long)), ap (at entries) z)

  -- Together.
  pub counts_rise : EndsBelow m starts entries → before (at starts m) ≡ at_starts m → PartsRise m starts entries
  counts_rise ends e k h = flat_rises k h (starts_flat e k h) (ends k h)

  pub rise_counts : PartsRise m starts entries → before (at starts m) ≡ at_starts m
  rise_counts rise = flat_starts (λ k h. rises_flat k h (rise k h)) m (omega arith)

  pub rise_ends : PartsRise m starts entries → EndsBelow m starts entries
  rise_ends rise k h = rises_end k h (rise k h)
