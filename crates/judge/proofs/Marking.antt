-- Marks set one by one: the places of the numbers of a list are marked. Rests on specs/Sets.antt and specs/Reach.antt.
use mathlib.Core.Bool.{Bool}
use mathlib.Core.List.{List, [], ◌∷◌, ◌++◌}
use mathlib.Core.Logic.{◌≢◌, ◌⊎◌, inl, inr, ⊎_elim, ◌↔◌}
use mathlib.Core.Path.{◌≡◌, refl, sym, ap, ◌∙◌, subst}
use Prim.Native.Nat.{ℕ, ◌+◌, ◌<◌}
use native.Mathlib.Decide.{ℕ_discrete}
use native.Mathlib.Numerals.{add-one}
use lib.Dec.{T}
use lib.ListN.{length, take}
use lib.Seq.{take-suc}
use Rattle.pattern.specs.Pattern.{has}
use Rattle.pattern.specs.Places.{at}
use Rattle.pattern.proofs.Tests.{has_append, has_left, has_right, has_here, has_cases}
use Rattle.listing.specs.Limits.{max_mark}
use Rattle.judge.specs.Reach.{WithPlaces}
use Rattle.judge.specs.Sets.{With}

-- A number of the first places of a list, and of one place more.
pub has_more : (l : List ℕ) (k x : ℕ) → k < length l → T (has (take (k + 1) l) x) ↔ (T (has (take k l) x) ⊎ (at l k ≡ x))
has_more l k x h = (λ t. there (has_append (take k l) (at l k ∷ []) x (subst In e t)), λ s. subst In (sym e) (back s))
  where
    In : List ℕ → Type 0
    In k = T (has k x)

    e : take (k + 1) l ≡ take k l ++ (at l k ∷ [])
    e = ap (λ (n : ℕ). take n l) (add-one k) ∙ take-suc l k 0 h

    there : T (has (take k l) x) ⊎ T (has (at l k ∷ []) x) → T (has (take k l) x) ⊎ (at l k ≡ x)
    there (inl t) = inl t
    there (inr t) = inr (⊎_elim (λ z. z) (λ z. absurd z) (has_cases (at l k) x [] t))

    back : T (has (take k l) x) ⊎ (at l k ≡ x) → T (has (take k l ++ (at l k ∷ [])) x)
    back (inl t) = has_left (take k l) (at l k ∷ []) x t
    back (inr z) = has_right (take k l) (at l k ∷ []) x (has_here (at l k) x [] z)

module _ (f : ℕ → ℕ) (l : List ℕ) {p : ℕ → Bool} where
  pub marking_more : {q q' : ℕ → Bool} (k v : ℕ) → k < length l → v ≡ f (at l k) → WithPlaces p q f (take k l) → With q q' v
      → WithPlaces p q' f (take (k + 1) l)
  marking_more {q} {q'} k v h e W M = record { are = λ j b. go j b (ℕ_discrete j v) }
    where
      Marked : ℕ → List ℕ → Type 0
      Marked j s = T (p j) ⊎ ((x : ℕ) × T (has s x) × (f x ≡ j))

      wider : (j : ℕ) → Marked j (take k l) → Marked j (take (k + 1) l)
      wider j (inl t) = inl t
      wider j (inr a) = inr (a.0, (has_more l k a.0 h).1 (inl a.1), a.2)

      narrower : (j : ℕ) → j ≢ v → Marked j (take (k + 1) l) → Marked j (take k l)
      narrower j n (inl t) = inl t
      narrower j n (inr a) =
          ⊎_elim (λ t. inr (a.0, t, a.2)) (λ z. absurd (n (sym a.2 ∙ ap f (sym z) ∙ sym e))) ((has_more l k a.0 h).0 a.1)

      go : (j : ℕ) → j < max_mark → Dec (j ≡ v) → T (q' j) ↔ Marked j (take (k + 1) l)
      go j b (yes z) = (λ t. inr (at l k, (has_more l k (at l k) h).1 (inr refl), sym e ∙ sym z), λ s. subst T (sym (ap q' z ∙ M.here)) tt)
      go j b (no n) = (λ t. wider j ((W.are j b).0 (subst T (M.others j b n) t)), λ s. subst T (sym (M.others j b n)) ((W.are j b).1 (narrower j n s)))
