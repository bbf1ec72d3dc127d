-- Reach, computed: one pass over the places of a sound order, since a way goes to later places only. Rests on Pairing.antt.
use mathlib.Core.Bool.{Bool, true, false, cond, ◌||◌}
use mathlib.Core.List.{List, [], ◌∷◌}
use mathlib.Core.Logic.{◌↔◌, ◌⊎◌, inl, inr}
use mathlib.Core.Path.{◌≡◌, refl, sym, ap, ◌∙◌, subst, subst₂}
use Prim.Native.Nat.{ℕ, zero, suc, ◌≤◌, ◌<◌}
use native.Mathlib.Decide.{ℕ_discrete}
use native.Mathlib.Omega.{arith}
use lib.Dec.{T, eqb, eqb→eq}
use Rattle.pattern.specs.Order.{Sound, Paired}
use Rattle.pattern.specs.Pattern.{Pattern, has, column, Entry}
use Rattle.pattern.specs.Places.{Once, Same, place}
use Rattle.pattern.specs.Reach.{Reach, itself, onward}
use Rattle.pattern.proofs.Tests.{eq-eqb, or_cases, or_left, or_right, has_cases, has_here, has_there, meets, meets_some, some_meets}
use Rattle.pattern.proofs.Search.{strong, last_or}
use Rattle.pattern.proofs.Pairing.{col_place}

-- A pattern that has the entries of another reaches what that does; likewise orders read from functions with the same numbers.
pub reach_same : {E E' : Pattern} {m m' : ℕ} {row col row' col' : ℕ → ℕ} {c x : ℕ} → ((r y : ℕ) → E r y → E' r y) → m ≡ m' → Same m row row' → Same m col col'
    → Reach E m row col c x → Reach E' m' row' col' c x
reach_same f e p q (itself z) = itself z
reach_same {x = x} f e p q (onward w r k a h b) =
    onward {x = x} w r (reach_same f e p q k) (a.0, omega (arith, a.1), sym (p a.0 a.1) ∙ a.2, sym (q a.0 a.1) ∙ a.3) (omega arith) (f r x b)

-- The column of place `t` is marked, where `S` are the rows paired with the columns marked before: it is `c`, or one of those
-- rows is present in it.
abbrev marked_after : List (List ℕ) → ℕ → (ℕ → ℕ) → List ℕ → ℕ → Bool
marked_after P c col S t = eqb (col t) c || meets (column P (col t)) S

-- The rows paired with the marked columns of the first places.
unfoldable pub reached : List (List ℕ) → ℕ → (ℕ → ℕ) → (ℕ → ℕ) → ℕ → List ℕ
reached P c row col zero = []
reached P c row col (suc t) = let S = reached P c row col t in cond (marked_after P c col S t) (row t ∷ S) S

module _ (P : List (List ℕ)) (c : ℕ) (row col : ℕ → ℕ) where
  abbrev marked : ℕ → Bool
  marked t = marked_after P c col (reached P c row col t) t

  -- A marked place before `t` whose row is `r`.
  abbrev MarkedAt : ℕ → ℕ → Type 0
  MarkedAt t r = (s : ℕ) × (s < t) × (row s ≡ r) × T (marked s)

  reached_marked : (t r : ℕ) → T (has (reached P c row col t) r) → MarkedAt t r
  unfolding reached
  reached_marked zero r h = absurd h
  reached_marked (suc t) r h = go (marked t) refl h (λ u. reached_marked t r u)
    where
      more : MarkedAt t r → MarkedAt (suc t) r
      more a = (a.0, omega (arith, a.1), a.2, a.3)

      new : marked t ≡ true → (row t ≡ r) ⊎ T (has (reached P c row col t) r) → (T (has (reached P c row col t) r) → MarkedAt t r)
          → MarkedAt (suc t) r
      new e (inl u) f = (t, omega arith, u, subst T (sym e) tt)
      new e (inr u) f = more (f u)

      go : (b : Bool) → marked t ≡ b → T (has (cond b (row t ∷ reached P c row col t) (reached P c row col t)) r)
          → (T (has (reached P c row col t) r) → MarkedAt t r) → MarkedAt (suc t) r
      go true e u f = new e (has_cases (row t) r (reached P c row col t) u) f
      go false e u f = more (f u)

  marked_reached : (t s : ℕ) → s < t → T (marked s) → T (has (reached P c row col t) (row s))
  unfolding reached
  marked_reached zero s l k = absurd (omega arith)
  marked_reached (suc t) s l k = go (last_or t s l) (marked t) refl (λ h. marked_reached t s h k)
    where
      go : (s < t) ⊎ (s ≡ t) → (b : Bool) → marked t ≡ b → (s < t → T (has (reached P c row col t) (row s)))
          → T (has (cond b (row t ∷ reached P c row col t) (reached P c row col t)) (row s))
      go (inr u) true e f = has_here (row t) (row s) (reached P c row col t) (ap row (sym u))
      go (inr u) false e f = absurd (subst T (ap marked u ∙ e) k)
      go (inl u) true e f = has_there (row t) (row s) (reached P c row col t) (f u)
      go (inl u) false e f = f u

  -- A marked column is reached.
  marked_reach : (m : ℕ) → Once col m m → (t : ℕ) → t < m → T (marked t) → Reach (Entry P) m row col c (col t)
  marked_reach m b = strong (λ t. t < m → T (marked t) → Reach (Entry P) m row col c (col t)) (λ t before l k. go t before l (or_cases (eqb (col t) c) (meets (column P (col t)) (reached P c row col t)) k))
    where
      go : (t : ℕ) → ((s : ℕ) → s < t → s < m → T (marked s) → Reach (Entry P) m row col c (col s)) → t < m
          → T (eqb (col t) c) ⊎ T (meets (column P (col t)) (reached P c row col t)) → Reach (Entry P) m row col c (col t)
      go t before l (inl u) = itself (eqb→eq (col t) c u)
      go t before l (inr u) =
          let a = meets_some (column P (col t)) (reached P c row col t) u in
          let d = reached_marked t a.0 a.2 in
          onward (col d.0) a.0 (before d.0 d.1 (omega (arith, d.1)) d.3) (d.0, omega (arith, d.1), d.2, refl) (b.below t l) a.1

  -- In a sound order a reached column is marked.
  reach_marked : (m : ℕ) → Sound (Entry P) m row col → c < m → (x : ℕ) → Reach (Entry P) m row col c x
      → (t : ℕ) × (t < m) × (col t ≡ x) × T (marked t)
  reach_marked m s cm x (itself e) =
      let a = col_place s c cm in
      (place col m c, a.0, a.1 ∙ sym e, or_left (eqb (col (place col m c)) c) _ (eq-eqb (col (place col m c)) c a.1))
  reach_marked m s cm x (onward w r k p xm e) = go (reach_marked m s cm w k) (col_place s x xm)
    where
      u : ℕ
      u = place col m x

      go : (t : ℕ) × (t < m) × (col t ≡ w) × T (marked t) → (u < m) × (col u ≡ x) → (t : ℕ) × (t < m) × (col t ≡ x) × T (marked t)
      go a b = (u, b.0, b.1, settle (ℕ_discrete p.0 u))
        where
          before : T (marked p.0)
          before = subst (λ (z : ℕ). T (marked z)) (s.cols.once a.0 p.0 a.1 p.1 (a.2 ∙ sym p.3)) a.3

          climbs : p.0 ≤ u
          climbs = s.upper p.0 u p.1 b.0 (subst₂ (Entry P) (sym p.2) (sym b.1) e)

          settle : Dec (p.0 ≡ u) → T (marked u)
          settle (yes v) = subst (λ (z : ℕ). T (marked z)) v before
          settle (no v) =
              or_right (eqb (col u) c) (meets (column P (col u)) (reached P c row col u))
              (some_meets (column P (col u)) (reached P c row col u) r (subst (Entry P r) (sym b.1) e)
              (subst (λ (z : ℕ). T (has (reached P c row col u) z)) p.2 (marked_reached u p.0 (omega (arith, climbs)) before)))

  -- The list holds the rows paired with reached columns, and no others.
  pub reached_rows : (m : ℕ) → Sound (Entry P) m row col → c < m → (r : ℕ)
      → T (has (reached P c row col m) r) ↔ ((x : ℕ) × Reach (Entry P) m row col c x × Paired m row col r x)
  reached_rows m s cm r = (λ h. there (reached_marked m r h), λ a. back a (reach_marked m s cm a.0 a.1))
    where
      there : MarkedAt m r → (x : ℕ) × Reach (Entry P) m row col c x × Paired m row col r x
      there a = (col a.0, marked_reach m s.cols a.0 a.1 a.3, (a.0, a.1, a.2, refl))

      back : (a : (x : ℕ) × Reach (Entry P) m row col c x × Paired m row col r x) → (t : ℕ) × (t < m) × (col t ≡ a.0) × T (marked t)
          → T (has (reached P c row col m) r)
      back a b = subst (λ (z : ℕ). T (has (reached P c row col m) z)) (ap row same ∙ a.2.2) (marked_reached m b.0 b.1 b.3)
        where
          same : b.0 ≡ a.2.0
          same = s.cols.once b.0 a.2.0 b.1 a.2.1 (b.2 ∙ sym a.2.3)
