-- The numbers of a set, one after another written over a list, and the set of the numbers whose places are of a set. Rests on
-- specs/Reach.antt, `listing` and `register`.
use mathlib.Core.Bool.{Bool, true, false, not, ◌&&◌}
use mathlib.Core.List.{List, [], ◌∷◌, ◌++◌}
use mathlib.Core.Logic.{◌≢◌}
use mathlib.Core.Path.{◌≡◌, refl, sym, ap, ap₂, ◌∙◌}
use Prim.Native.Nat.{ℕ, ◌+◌, ◌<◌}
use native.Mathlib.Omega.{arith}
use lib.Dec.{T, T_not, eqb, eqb→eq}
use lib.ListN.{length, set, length-set, length-append}
use Rattle.pattern.specs.Places.{at, place}
use Rattle.pattern.specs.Series.{numbers}
use Rattle.pattern.proofs.Numbers.{numbers_same, numbers_few, numbers_more, numbers_skip}
use Rattle.pattern.proofs.Tests.{T_true, T_false, true_T, eq-eqb, and_left, and_right}
use Rattle.listing.specs.Held.{over}
use Rattle.listing.proofs.Puts.{put_none, put_more}
use Rattle.register.specs.Order.{Placed}
use Rattle.judge.specs.Reach.{stands_at}

-- ---- Written over the beginning of a list

-- The `n` numbers below `k`.
pub record Lain (p : ℕ → Bool) (l l' : List ℕ) (n k : ℕ) : Type 0 where
  pub long : length l' ≡ length l
  pub count : n ≡ length (numbers p k)
  pub now : l' ≡ over (numbers p k) l

module _ (p : ℕ → Bool) (l : List ℕ) where
  pub lain_none : Lain p l l 0 0
  unfolding numbers
  lain_none = record { long = refl; count = refl; now = sym (put_none 0 l) }

  module _ {l' : List ℕ} {n k : ℕ} (L : Lain p l l' n k) where
    pub lain_room : k < length l → n < length l
    lain_room h = omega (arith, L.count, numbers_few p k)

    pub lain_more : k < length l → p k ≡ true → (v : ℕ) → v ≡ k → Lain p l (set l' n v) (n + 1) (k + 1)
    lain_more h t v ev =
        let e : numbers p (k + 1) ≡ numbers p k ++ (v ∷ []) = numbers_more p k t ∙ ap (λ (x : ℕ). numbers p k ++ (x ∷ [])) (sym ev) in
        record {
          long = length-set l' n v ∙ L.long;
          count = omega (arith, L.count, ap length e, length-append (numbers p k) (v ∷ []));
          now =
              ap (λ (i : List ℕ). set i n v) L.now
              ∙ put_more 0 (numbers p k) l n v (omega (arith, L.count)) (lain_room h)
              ∙ ap (λ (i : List ℕ). over i l) (sym e);
        }

    pub lain_same : p k ≡ false → Lain p l l' n (k + 1)
    lain_same f =
        let e : numbers p (k + 1) ≡ numbers p k = numbers_skip p k (k + 1) (omega arith) (λ i a b. let z : i ≡ k = omega arith in ap p z ∙ f) in
        record { long = L.long; count = L.count ∙ ap length (sym e); now = L.now ∙ ap (λ (i : List ℕ). over i l) (sym e) }

-- ---- Whether the place of a number is of a set, but for place `t`

module _ (p : ℕ → Bool) (f : ℕ → ℕ) (t x : ℕ) where
  pub stands_here : p (f x) ≡ true → f x ≢ t → stands_at p f t x ≡ true
  unfolding stands_at
  stands_here e n = ap₂ ◌&&◌ e (ap not (T_false (eqb (f x) t) (λ u. n (eqb→eq (f x) t u))))

  pub stands_off : p (f x) ≡ false → stands_at p f t x ≡ false
  unfolding stands_at
  stands_off e = ap (λ (b : Bool). b && not (eqb (f x) t)) e

  pub stands_but : p (f x) ≡ true → f x ≡ t → stands_at p f t x ≡ false
  unfolding stands_at
  stands_but e z = ap₂ ◌&&◌ e (ap not (T_true (eqb (f x) t) (eq-eqb (f x) t z)))

  pub stands_only : T (stands_at p f t x) → T (p (f x)) × (f x ≢ t)
  unfolding stands_at
  stands_only u = (and_left (p (f x)) (not (eqb (f x) t)) u, λ z. T_not (eqb (f x) t) (and_right (p (f x)) (not (eqb (f x) t)) u) (eq-eqb (f x) t z))

  pub only_stands : T (p (f x)) → f x ≢ t → T (stands_at p f t x)
  only_stands u n = true_T (stands_here (T_true (p (f x)) u) n)

-- The places in a scratch list are those of the order.
pub standing_same : {m : ℕ} {row : ℕ → ℕ} {places : List ℕ} (p : ℕ → Bool) (t : ℕ) → Placed m row places → numbers (stands_at p (at places) t) m ≡ numbers (stands_at p (place row m) t) m
unfolding stands_at
standing_same {m} {row} {places} p t L =
    numbers_same (stands_at p (at places) t) (stands_at p (place row m) t) m (λ x h. ap (λ (s : ℕ). p s && not (eqb s t)) (L.stand x h))
