-- The lists of an order: numbers laid at their places, and what stands at one place moved to the last. Rests on `pattern`,
-- `listing` and `register`.
use mathlib.Core.List.{List, [], ◌∷◌, ◌++◌, append_assoc}
use mathlib.Core.Path.{◌≡◌, sym, ap, ap₂, ◌∙◌}
use Prim.Native.Nat.{ℕ, suc, ◌+◌, ◌-◌, ◌≤◌, ◌<◌}
use native.Mathlib.Decide.{ℕ_discrete}
use native.Mathlib.Numerals.{add-one}
use native.Mathlib.Omega.{arith}
use lib.ListN.{length, set, take, drop}
use lib.Seq.{get_or-set_same, get_or-set_other, get_or-take, take-take}
use Rattle.pattern.specs.Places.{at, Once, place}
use Rattle.pattern.specs.Verdict.{to_last}
use Rattle.pattern.proofs.Finding.{place_at, place_once}
use Rattle.listing.specs.Held.{over}
use Rattle.listing.specs.Walk.{Kept}
use Rattle.listing.proofs.Holding.{over_is}
use Rattle.listing.specs.Listing.{between}
use Rattle.listing.proofs.Between.{between_length}
use Rattle.listing.proofs.Puts.{put_more, put_is_over}
use Rattle.std.proofs.lemmas.Slice.{between_is}
use Rattle.std.specs.List.{copy_within}
use Rattle.store.proofs.Moving.{moved}
use Rattle.listing.proofs.Turns.{kept_all, kept_set}
use Rattle.register.specs.Order.{Placed}

-- ---- Numbers at their places

-- `f` gives the place of each number in the order.
pub record GivesPlaces (m : ℕ) (order : List ℕ) (f : ℕ → ℕ) : Type 0 where
  pub long : length order ≡ m
  pub once : Once (at order) m m
  pub gives : (y : ℕ) → y < m → f y ≡ place (at order) m y

-- The numbers below `n` have been laid where `f` says, whatever order it is that `f` gives the places of.
pub record LayingAt (m : ℕ) (f : ℕ → ℕ) (n : ℕ) (old now : List ℕ) : Type 0 where
  pub kept : Kept m old now
  pub stand : (order : List ℕ) → GivesPlaces m order f → (y : ℕ) → y < n → at now (f y) ≡ y

module _ {m : ℕ} {f : ℕ → ℕ} {old : List ℕ} where
  pub laying_at_none : LayingAt m f 0 old old
  laying_at_none = record { kept = kept_all; stand = λ order g y h. absurd (omega arith) }

  pub laying_at_more : {n v : ℕ} {now : List ℕ} → n < m → v ≡ f n → v < m → m ≤ length old → LayingAt m f n old now → LayingAt m f (n + 1) old (set now v n)
  laying_at_more {n} {v} {now} h e b long L =
      record { kept = kept_set v n b L.kept; stand = λ order g y u. go order g y u (ℕ_discrete y n) }
    where
      go : (order : List ℕ) → GivesPlaces m order f → (y : ℕ) → y < n + 1 → Dec (y ≡ n) → at (set now v n) (f y) ≡ y
      go order g y u (yes z) = ap (λ (i : ℕ). at (set now v n) (f i)) z ∙ ap (at (set now v n)) (sym e) ∙ get_or-set_same now v n 0 (omega (arith, L.kept.long)) ∙ sym z
      go order g y u (no z) = get_or-set_other now v (f y) n 0 (λ w. z (apart w)) ∙ L.stand order g y (omega arith)
        where
          apart : f y ≡ v → y ≡ n
          apart w = (place_once g.once).once y n (omega arith) h (sym (g.gives y (omega arith)) ∙ w ∙ e ∙ g.gives n h)

  pub laying_at_all : {now : List ℕ} → m ≤ length old → LayingAt m f m old now → (order : List ℕ) → GivesPlaces m order f → now ≡ over order old
  laying_at_all {now} long L order g =
      over_is order old g.long long L.kept
      (λ i h.
      let b = g.once.below i h in
      let e : f (at order i) ≡ i = g.gives (at order i) b ∙ place_at g.once i h in
      ap (at now) (sym e) ∙ L.stand order g (at order i) b)

-- The places of an order's numbers.
pub order_places : {m : ℕ} {places : List ℕ} (order : List ℕ) → length order ≡ m → Placed m (at order) places → GivesPlaces m order (at places)
order_places order e L = record { long = e; once = L.once; gives = L.stand }

-- ---- To the last place

-- What stands behind place `t` goes one place to the front, and what stood there to the last of `m` places.
pub last_moved : (t m : ℕ) (l : List ℕ) → t < m → m ≤ length l → set (copy_within l (t + 1) m t) (m - 1) (at l t) ≡ over (to_last t (take m l)) l
unfolding to_last
last_moved t m l h b =
    let behind = between (t + 1) m l in
    let n : t + length behind ≡ m - 1 = omega (arith, between_length (t + 1) m l b) in
    let front : take t l ≡ take t (take m l) = sym (take-take t m l (omega arith)) in
    let back : behind ≡ drop (suc t) (take m l) = between_is l (t + 1) m ∙ ap (λ (k : ℕ). drop k (take m l)) (add-one t) in
    ap (λ (j : List ℕ). set j (m - 1) (at l t)) (moved l (t + 1) m t b)
    ∙ put_more t behind l (m - 1) (at l t) (sym n) (omega arith)
    ∙ put_is_over t (behind ++ (at l t ∷ [])) l (omega arith)
    ∙ ap (λ (j : List ℕ). over j l) (
    sym (append_assoc (take t l) behind (at l t ∷ []))
    ∙ ap₂ (λ (a b : List ℕ). (a ++ b) ++ (at l t ∷ [])) front back
    ∙ ap (λ (x : ℕ). (take t (take m l) ++ drop (suc t) (take m l)) ++ (x ∷ [])) (sym (get_or-take m l t 0 h))
    )
