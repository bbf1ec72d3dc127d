-- Where a number stands among others that are all different. Rests on Search.antt and Once.antt.
use mathlib.Core.Logic.{◌⊎◌, inl, inr}
use mathlib.Core.Path.{◌≡◌, refl, sym, ap, ◌∙◌}
use Prim.Native.Nat.{ℕ, ◌<◌}
use lib.Dec.{eqb, eqb→eq}
use Rattle.pattern.specs.Places.{Among, Outside, Once, least, place}
use Rattle.pattern.proofs.Tests.{eq-eqb}
use Rattle.pattern.proofs.Search.{Found, None, find, Sought, least_is, outside_dec, not_outside}
use Rattle.pattern.proofs.Once.{onto, too_many}

-- A number that stands there stands at its place.
pub place_is : (f : ℕ → ℕ) (n x : ℕ) → Among f n x → (place f n x < n) × (f (place f n x) ≡ x)
unfolding place
place_is f n x a = go (least (λ i. eqb (f i) x) n) (least_is (λ i. eqb (f i) x) n)
  where
    go : (k : ℕ) → Sought (λ i. eqb (f i) x) n k → (k < n) × (f k ≡ x)
    go k (inl s) = (s.0, eqb→eq (f k) x s.1)
    go k (inr s) = absurd (s.1 a.0 a.1 (eq-eqb (f a.0) x a.2))

pub place_at : {f : ℕ → ℕ} {n m : ℕ} → Once f n m → (t : ℕ) → t < n → place f n (f t) ≡ t
place_at {f} {n} k t h = let a = place_is f n (f t) (t, h, refl) in k.once (place f n (f t)) t a.0 h a.1

-- Where each number below `m` stands once, it stands at its place, and no two at one place.
pub place_of : {f : ℕ → ℕ} {m : ℕ} → Once f m m → (x : ℕ) → x < m → (place f m x < m) × (f (place f m x) ≡ x)
place_of {f} {m} k x h = place_is f m x (onto k x h)

pub place_once : {f : ℕ → ℕ} {m : ℕ} → Once f m m → Once (place f m) m m
place_once {f} k =
    record {
      below = λ x h. (place_of k x h).0;
      once = λ x y hx hy e. sym (place_of k x hx).1 ∙ ap f e ∙ (place_of k y hy).1;
    }

-- Of more numbers than there are places one stands at none of them.
pub one_outside : {f g : ℕ → ℕ} {m n k : ℕ} → n < m → Once f m k → (i : ℕ) × (i < m) × Outside g n (f i)
one_outside {f} {g} {m} {n} l o = go (find (λ i. Outside g n (f i)) (λ i. outside_dec g n (f i)) m)
  where
    go : Found (λ i. Outside g n (f i)) m ⊎ None (λ i. Outside g n (f i)) m → (i : ℕ) × (i < m) × Outside g n (f i)
    go (inl r) = (r.number, r.in_range, r.is_so)
    go (inr h) = absurd (too_many l (record { below = λ i u. (spot i u).0; once = λ i j u v e. o.once i j u v (sym (spot i u).1 ∙ ap g e ∙ (spot j v).1) }))
      where
        spot : (i : ℕ) → i < m → (place g n (f i) < n) × (g (place g n (f i)) ≡ f i)
        spot i u = place_is g n (f i) (not_outside g n (f i) (h i u))
