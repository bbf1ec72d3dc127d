-- Searches below a bound, and induction from all smaller numbers. Rests on specs/Places.antt.
use mathlib.Core.Bool.{Bool, true, false, cond}
use mathlib.Core.Logic.{◌⊎◌, inl, inr, ite}
use mathlib.Core.Path.{◌≡◌, refl, sym, ap, subst}
use Prim.Native.Nat.{ℕ, zero, suc, ◌<◌}
use native.Mathlib.Decide.{ℕ_discrete}
use native.Mathlib.Omega.{arith}
use lib.Dec.{T}
use Rattle.pattern.specs.Places.{Among, Outside, least}

-- No number below `n` has the property `A`.
abbrev pub None : (ℕ → Type 0) → ℕ → Type 0
None A n = (i : ℕ) → i < n → ¬ A i

-- The least number with the property `A`, which lies below `n`.
pub record Found (A : ℕ → Type 0) (n : ℕ) : Type 0 where
  pub number : ℕ
  pub in_range : number < n
  pub is_so : A number
  pub none_before : None A number

-- A property that can be decided has a least number below `n`, or none there.
pub find : (A : ℕ → Type 0) → ((i : ℕ) → Dec (A i)) → (n : ℕ) → Found A n ⊎ None A n
find A d zero = inr (λ i h. absurd (omega arith))
find A d (suc n) = go (find A d n) (d n)
  where
    go : Found A n ⊎ None A n → Dec (A n) → Found A (suc n) ⊎ None A (suc n)
    go (inl f) e = inl (record { number = f.number; in_range = omega (arith, f.in_range); is_so = f.is_so; none_before = f.none_before })
    go (inr h) (yes a) = inl (record { number = n; in_range = omega arith; is_so = a; none_before = h })
    go (inr h) (no x) = inr (λ i l. step i l (ℕ_discrete i n))
      where
        step : (i : ℕ) → i < suc n → Dec (i ≡ n) → ¬ A i
        step i l (yes e) a = x (subst A e a)
        step i l (no e) a = h i (omega arith) a

-- What follows at each number from the numbers below it holds everywhere.
pub strong : (A : ℕ → Type 0) → ((i : ℕ) → ((j : ℕ) → j < i → A j) → A i) → (i : ℕ) → A i
strong A s i = upto (suc i) i (omega arith)
  where
    upto : (b i : ℕ) → i < b → A i
    upto zero i l = absurd (omega arith)
    upto (suc b) i l = s i (λ j h. upto b j (omega arith))

-- A place up to the last is before it, or is the last.
pub last_or : (n i : ℕ) → i < suc n → (i < n) ⊎ (i ≡ n)
last_or n i h = go (ℕ_discrete i n)
  where
    go : Dec (i ≡ n) → (i < n) ⊎ (i ≡ n)
    go (yes e) = inr e
    go (no e) = inl (omega arith)

-- What a choice between two numbers comes to.
pub ite_cases : {P : Type 0} (d : Dec P) (a b : ℕ) → (P × (ite d a b ≡ a)) ⊎ (¬ P × (ite d a b ≡ b))
ite_cases (yes p) a b = inl (p, refl)
ite_cases (no h) a b = inr (h, refl)

-- ---- Whether a number stands among the first places

pub among_or : (f : ℕ → ℕ) (n x : ℕ) → Among f n x ⊎ Outside f n x
among_or f n x = go (find (λ i. f i ≡ x) (λ i. ℕ_discrete (f i) x) n)
  where
    go : Found (λ i. f i ≡ x) n ⊎ None (λ i. f i ≡ x) n → Among f n x ⊎ Outside f n x
    go (inl r) = inl (r.number, r.in_range, r.is_so)
    go (inr h) = inr h

pub outside_dec : (f : ℕ → ℕ) (n x : ℕ) → Dec (Outside f n x)
outside_dec f n x = go (among_or f n x)
  where
    go : Among f n x ⊎ Outside f n x → Dec (Outside f n x)
    go (inl a) = no (λ o. o a.0 a.1 a.2)
    go (inr o) = yes o

pub not_outside : (f : ℕ → ℕ) (n x : ℕ) → ¬ Outside f n x → Among f n x
not_outside f n x h = go (among_or f n x)
  where
    go : Among f n x ⊎ Outside f n x → Among f n x
    go (inl a) = a
    go (inr o) = absurd (h o)

-- ---- The search that computes

-- `k` is what a search below `n` finds.
abbrev pub Sought : (ℕ → Bool) → ℕ → ℕ → Type 0
Sought test n k = ((k < n) × T (test k) × None (λ i. T (test i)) k) ⊎ ((k ≡ n) × None (λ i. T (test i)) n)

pub least_is : (test : ℕ → Bool) (n : ℕ) → Sought test n (least test n)
unfolding least
least_is test zero = inr (refl, λ j l. absurd (omega arith))
least_is test (suc n) = go (test zero) refl (least (λ i. test (suc i)) n) (least_is (λ i. test (suc i)) n)
  where
    later : (k : ℕ) → test zero ≡ false → None (λ i. T (test (suc i))) k → None (λ i. T (test i)) (suc k)
    later k e h zero l t = subst T e t
    later k e h (suc j) l t = h j (omega arith) t

    go : (b : Bool) → test zero ≡ b → (k : ℕ) → Sought (λ i. test (suc i)) n k → Sought test (suc n) (cond b zero (suc k))
    go true e k s = inl (omega arith, subst T (sym e) tt, λ j l. absurd (omega arith))
    go false e k (inl s) = inl (omega (arith, s.0), s.1, later k e s.2)
    go false e k (inr s) = inr (ap suc s.0, later n e s.1)
