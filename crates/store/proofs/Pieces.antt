-- What is deleted of one part of a listing, and what is left of it. Rests on specs/Store.antt, Without.antt and `listing`.
use mathlib.Core.List.{List, [], ◌∷◌, ◌++◌}
use mathlib.Core.Logic.{◌≢◌, ◌⊎◌, ⊎_elim}
use mathlib.Core.Path.{◌≡◌, sym, ap, ap₂, ◌∙◌}
use Prim.Native.Nat.{ℕ, ◌+◌, ◌-◌, ◌≤◌, ◌<◌}
use native.Mathlib.Decide.{ℕ_discrete, dec_lt}
use native.Mathlib.Omega.{arith}
use lib.Dec.{T}
use lib.ListN.{length}
use Rattle.pattern.specs.Pattern.{has, column, Entry}
use Rattle.pattern.specs.Places.{at}
use Rattle.pattern.specs.Rising.{Rising}
use Rattle.pattern.proofs.Rises.{rising_less}
use Rattle.pattern.proofs.Tests.{choose_same, choose_other, has_among}
use Rattle.listing.specs.Listing.{between, part, parts, Good}
use Rattle.listing.proofs.Between.{between_none, between_one, between_length, between_at, between_between}
use Rattle.listing.proofs.Listings.{part_is, good_within}
use Rattle.store.specs.Store.{without, left, Cut, Piece}
use Rattle.store.proofs.Without.{without_struck, without_append, without_none}

-- A number of a list that rises stands where the numbers below it end.
pub cut_there : {m r n : ℕ} {l : List ℕ} → Rising m l → Cut r n l → T (has l r) → (n < length l) × (at l n ≡ r)
cut_there {m} {r} {n} {l} R C t = go (has_among l r t)
  where
    go : (i : ℕ) × (i < length l) × (at l i ≡ r) → (n < length l) × (at l n ≡ r)
    go a = (h, at_once (dec_lt n a.0))
      where
        up : n ≤ a.0
        up = low (dec_lt a.0 n)
          where
            low : Dec (a.0 < n) → n ≤ a.0
            low (yes u) = absurd (omega (arith, C.below a.0 u, a.2))
            low (no u) = omega arith

        h : n < length l
        h = omega (arith, up, a.1)

        at_once : Dec (n < a.0) → at l n ≡ r
        at_once (yes u) = absurd (omega (arith, C.next h, rising_less R n a.0 u a.1, a.2))
        at_once (no u) = let e : n ≡ a.0 = omega (arith, up) in ap (at l) e ∙ a.2

module _ {m c r k from to : ℕ} {starts entries : List ℕ} (G : Good m starts entries) (h : k < m) (X : Piece c r k starts entries from to)
    (some : (k ≡ c) ⊎ Entry (parts m starts entries) r k) where
  abbrev P : List (List ℕ)
  P = parts m starts entries

  abbrev a : ℕ
  a = at starts k

  abbrev b : ℕ
  b = at starts (k + 1)

  within : (a ≤ b) × (b ≤ length entries)
  within = ((good_within G k h).no_fall, (good_within G k h).in_list)

  -- The number `r` stands in another part than part `c`.
  module _ (n : k ≢ c) where
    abbrev l : List ℕ
    l = part starts entries k

    rise : Rising m l
    rise = G.formed.rise k h

    there : (from - a < length l) × (at l (from - a) ≡ r)
    there = cut_there rise (X.one n).1 (⊎_elim (λ e. absurd (n e)) (λ t. rw (part_is m starts entries k h) at t) some)

    in_part : (a ≤ from) × (from < b)
    in_part = ((X.one n).0, omega (arith, there.0, (X.one n).0, between_length a b entries within.1))

    -- What stands at a place of the part.
    at_place : (i : ℕ) → a + i < b → at l i ≡ at entries (a + i)
    at_place i u = between_at a b entries i u

    front : ¬ T (has (between a from entries) r)
    front t =
        let w = has_among (between a from entries) r t in
        let u : w.0 < from - a = omega (arith, w.1, between_length a from entries (omega (arith, in_part.1, within.1))) in
        omega (arith, (X.one n).1.below w.0 u, at_place w.0 (omega (arith, in_part.1)), between_at a from entries w.0 (omega arith), w.2)

    back : ¬ T (has (between (from + 1) b entries) r)
    back t =
        let w = has_among (between (from + 1) b entries) r t in
        let u : from + 1 + w.0 < b = omega (arith, w.1, between_length (from + 1) b entries within.1) in
        let x : ℕ = from - a in
        let e : a + (x + 1 + w.0) ≡ from + 1 + w.0 = omega (arith, in_part.0) in
        omega (
          arith,
          rising_less rise x (x + 1 + w.0) (omega arith) (omega (arith, u, in_part.0, between_length a b entries within.1)),
          there.1,
          at_place (x + 1 + w.0) (omega (arith, e, u)),
          ap (at entries) e,
          between_at (from + 1) b entries w.0 u,
          w.2,
        )

    here : at entries from ≡ r
    here = let e : a + (from - a) ≡ from = omega (arith, in_part.0) in ap (at entries) (sym e) ∙ sym (at_place (from - a) (omega (arith, e, in_part.1))) ∙ there.1

    without_it : without r (column P k) ≡ between a from entries ++ between to b entries
    without_it =
        ap (without r)
        (part_is m starts entries k h
        ∙ sym (between_between a from entries in_part.0 b (omega (arith, in_part.1)))
        ∙ ap (λ (j : List ℕ). between a from entries ++ j)
        (sym (between_between from (from + 1) entries (omega arith) b (omega (arith, in_part.1)))
        ∙ ap (λ (j : List ℕ). j ++ between (from + 1) b entries) (between_one from entries (omega (arith, in_part.1, within.1)))))
        ∙ without_append r (between a from entries) (at entries from ∷ between (from + 1) b entries)
        ∙ ap₂ (λ (i j : List ℕ). i ++ j) (without_none r (between a from entries) front)
        (without_struck r (at entries from) (between (from + 1) b entries) here ∙ without_none r (between (from + 1) b entries) back)
        ∙ ap (λ (i : ℕ). between a from entries ++ between i b entries) (sym (X.one n).2)

  -- It lies in the part.
  pub piece_within : (a ≤ from) × (from ≤ to) × (to ≤ b)
  piece_within = go (ℕ_discrete k c)
    where
      go : Dec (k ≡ c) → (a ≤ from) × (from ≤ to) × (to ≤ b)
      go (yes e) = omega (arith, (X.all e).0, (X.all e).1, within.0)
      go (no n) = omega (arith, (in_part n).0, (in_part n).1, (X.one n).2)

  -- What is left stands before it and behind it.
  pub piece_left : left P c r k ≡ between a from entries ++ between to b entries
  piece_left = go (ℕ_discrete k c)
    where
      go : Dec (k ≡ c) → left P c r k ≡ between a from entries ++ between to b entries
      go (yes e) =
          choose_same k c [] (without r (column P k)) e
          ∙ sym (ap₂ (λ (i j : List ℕ). i ++ j)
          (ap (λ (x : ℕ). between a x entries) (X.all e).0 ∙ between_none a entries)
          (ap (λ (x : ℕ). between x b entries) (X.all e).1 ∙ between_none b entries))
      go (no n) = choose_other k c [] (without r (column P k)) n ∙ without_it n
