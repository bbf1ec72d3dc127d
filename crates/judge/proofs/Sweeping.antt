-- The sweep that finds the reached places. Rests on specs/Reach.antt and `pattern`.
use mathlib.Core.Bool.{Bool, false}
use mathlib.Core.List.{List}
use mathlib.Core.Logic.{◌≢◌, ◌↔◌, ◌⊎◌, inl, inr, ⊎_elim}
use mathlib.Core.Path.{◌≡◌, refl, sym, ap, ◌∙◌, subst}
use Prim.Native.Nat.{ℕ, ◌+◌, ◌≤◌, ◌<◌}
use native.Mathlib.Decide.{ℕ_discrete}
use native.Mathlib.Omega.{arith}
use lib.Dec.{T}
use Rattle.pattern.specs.Order.{Sound}
use Rattle.pattern.specs.Pattern.{Pattern, has, column}
use Rattle.pattern.specs.Places.{at, place}
use Rattle.pattern.specs.Reach.{Reach, itself, onward}
use Rattle.pattern.proofs.Finding.{place_at, place_of}
use Rattle.pattern.proofs.Search.{last_or}
use Rattle.pattern.proofs.Turning.{row_below}
use Rattle.listing.specs.Limits.{max_mark}
use Rattle.listing.specs.Listing.{parts, Good}
use Rattle.listing.proofs.Listings.{good_columns}
use Rattle.register.specs.Order.{Placed}
use Rattle.judge.specs.Reach.{ByRows, WithPlaces, Swept}
use Rattle.judge.specs.Sets.{With}

-- The set has the old places of the columns of Reach(c).
pub record Reached (E : Pattern) (m : ℕ) (row col : ℕ → ℕ) (c : ℕ) (p : ℕ → Bool) : Type 0 where
  pub are : (t : ℕ) → t < m → T (p t) ↔ Reach E m row col c (col t)

module _ {m : ℕ} {rs rc : List ℕ} (G : Good m rs rc) {row col : ℕ → ℕ} {old : List ℕ} (L : Placed m col old)
    (S : Sound (ByRows (parts m rs rc)) m row col) where
  abbrev Q : List (List ℕ)
  Q = parts m rs rc

  -- A column has the place that the list has for it, and stands there.
  at_place : (y : ℕ) → y < m → (place col m y < m) × (col (place col m y) ≡ y)
  at_place = place_of L.once

  own_place : (t : ℕ) → t < m → place col m (col t) ≡ t
  own_place = place_at L.once

  -- A column of a row is in range.
  in_range : (t y : ℕ) → T (has (column Q (row t)) y) → y < m
  in_range t y e = row_below (good_columns G) y (row t) e

  -- From c's place, with c alone marked.
  pub sweeping_none : {p q : ℕ → Bool} (t : ℕ) → t < m → ((k : ℕ) → k < max_mark → p k ≡ false) → With p q t → Swept m Q row col (col t) t q
  sweeping_none {p} {q} t h none M =
      record {
        reach = λ k b u. itself (ap col (only k (omega (arith, G.small)) u));
        start = (omega (arith, own_place t h), subst T (sym (ap q (own_place t h) ∙ M.here)) tt);
        gone = λ k b u. absurd (lower k b (only k (omega (arith, G.small)) u));
      }
    where
      only : (k : ℕ) → k < max_mark → T (q k) → k ≡ t
      only k b u = go (ℕ_discrete k t)
        where
          go : Dec (k ≡ t) → k ≡ t
          go (yes e) = e
          go (no n) = absurd (subst T (M.others k b n ∙ none k b) u)

      lower : (k : ℕ) → k < t → k ≢ t
      lower k b e = omega arith

  -- A place that is not marked.
  pub sweeping_same : {c t : ℕ} {p : ℕ → Bool} → p t ≡ false → Swept m Q row col c t p → Swept m Q row col c (t + 1) p
  sweeping_same {t = t} {p = p} f W =
      record {
        reach = W.reach;
        start = W.start;
        gone = λ k b u. ⊎_elim (λ d. W.gone k d u) (λ e. absurd (subst T (ap p e ∙ f) u)) (last_or t k (omega arith));
      }

  -- The row of a marked place.
  module _ {c t : ℕ} {p q : ℕ → Bool} (h : t < m) (u : T (p t)) (W : Swept m Q row col c t p)
      (N : WithPlaces p q (at old) (column Q (row t))) where
    -- What was marked still is; and what is marked was, or is the place of a column of the row.
    still : (k : ℕ) → k < m → T (p k) → T (q k)
    still k b v = (N.are k (omega (arith, G.small))).1 (inl v)

    fresh : (k : ℕ) → k < max_mark → T (q k) → T (p k) ⊎ ((k < m) × T (has (column Q (row t)) (col k)))
    fresh k b v = go ((N.are k b).0 v)
      where
        go : T (p k) ⊎ ((y : ℕ) × T (has (column Q (row t)) y) × (at old y ≡ k)) → T (p k) ⊎ ((k < m) × T (has (column Q (row t)) (col k)))
        go (inl w) = inl w
        go (inr a) =
            let y = in_range t a.0 a.1 in
            let e : place col m a.0 ≡ k = sym (L.stand a.0 y) ∙ a.2 in
            inr (omega (arith, (at_place a.0 y).0), subst (λ (z : ℕ). T (has (column Q (row t)) z)) (sym (at_place a.0 y).1 ∙ ap col e) a.1)

    pub sweeping_more : Swept m Q row col c (t + 1) q
    sweeping_more =
        record {
          reach = λ k b v. ⊎_elim (W.reach k b) (λ a. onward (col t) (row t) (W.reach t h u) (t, h, refl, refl) (S.cols.below k b) a.1) (fresh k (omega (arith, G.small)) v);
          start = (W.start.0, still (place col m c) W.start.0 W.start.1);
          gone = λ k b v. ⊎_elim
              (λ d. before k d v)
              (λ e. subst (λ (i : ℕ). (y : ℕ) → T (has (column Q (row i)) y) → T (q (place col m y))) (sym e) here)
              (last_or t k (omega arith));
        }
      where
        before : (k : ℕ) → k < t → T (q k) → (y : ℕ) → T (has (column Q (row k)) y) → T (q (place col m y))
        before k b v y e =
            ⊎_elim (λ w. still (place col m y) (at_place y (in_range k y e)).0 (W.gone k b w y e)) (λ a. absurd (omega (arith, S.upper t k h a.0 a.1))) (fresh k (omega (arith, G.small)) v)

        here : (y : ℕ) → T (has (column Q (row t)) y) → T (q (place col m y))
        here y e =
            let b = in_range t y e in
            (N.are (place col m y) (omega (arith, G.small, (at_place y b).0))).1 (inr (y, e, L.stand y b))

  -- A step goes to a later place or stays, and what it goes to from a marked place is marked where the sweep has come.
  module _ {c t : ℕ} {p : ℕ → Bool} (W : Swept m Q row col c t p) where
    module _ (s x : ℕ) (h : s < m) (d : x < m) (e : T (has (column Q (row s)) x)) where
      later : s ≤ place col m x
      later = S.upper s (place col m x) h (at_place x d).0 (subst (λ (z : ℕ). T (has (column Q (row s)) z)) (sym (at_place x d).1) e)

      step : T (p s) → place col m x ≤ t → T (p (place col m x))
      step v u = go (ℕ_discrete s (place col m x))
        where
          go : Dec (s ≡ place col m x) → T (p (place col m x))
          go (yes z) = subst (λ (y : ℕ). T (p y)) z v
          go (no n) = W.gone s (omega (arith, n, later)) v x e

    back : (x : ℕ) → Reach (ByRows Q) m row col c x → place col m x ≤ t → T (p (place col m x))
    back x (itself e) u = subst (λ (z : ℕ). T (p (place col m z))) (sym e) W.start.1
    back x (onward w r i a d e) u =
        let entry = subst (λ (z : ℕ). T (has (column Q z) x)) (sym a.2) e in
        let z : place col m w ≡ a.0 = ap (place col m) (sym a.3) ∙ own_place a.0 a.1 in
        step a.0 x a.1 d entry (subst (λ (y : ℕ). T (p y)) z (back w i (omega (arith, z, later a.0 x a.1 d entry, u)))) u

    -- So the marks of those places tell Reach(c).
    pub swept_are : (k : ℕ) → k < m → k ≤ t → T (p k) ↔ Reach (ByRows Q) m row col c (col k)
    swept_are k b h = (W.reach k b, λ r. subst (λ (z : ℕ). T (p z)) (own_place k b) (back (col k) r (omega (arith, own_place k b))))

  -- Where no place is left, the marked ones are those of Reach(c).
  pub sweeping_all : {c t : ℕ} {p : ℕ → Bool} → m ≤ t → Swept m Q row col c t p → Reached (ByRows Q) m row col c p
  sweeping_all h W = record { are = λ k b. swept_are W k b (omega arith) }
