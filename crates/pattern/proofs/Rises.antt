-- Lists that strictly rise: one with given numbers is one list, and a test that computes. Rests on Tests.antt.
use mathlib.Core.Bool.{Bool, true, ◌&&◌}
use mathlib.Core.List.{List, [], ◌∷◌, ◌++◌}
use mathlib.Core.Logic.{◌⊎◌, inl, inr, ⊎_elim}
use mathlib.Core.Path.{◌≡◌, refl, sym, ap, ap₂, ◌∙◌}
use Prim.Native.Nat.{ℕ, zero, suc, ◌<◌, ◌-◌}
use native.Mathlib.Numerals.{add-one}
use native.Mathlib.Omega.{arith}
use lib.Dec.{T, ltb, ltb→lt, lt→ltb}
use lib.ListN.{length, length-append, get_or-append}
use lib.Seq.{get_or-append_seam}
use Rattle.pattern.specs.Pattern.{has}
use Rattle.pattern.specs.Places.{at}
use Rattle.pattern.specs.Rising.{Rising}
use Rattle.pattern.proofs.Climbing.{climbs}
use Rattle.pattern.proofs.Search.{last_or}
use Rattle.pattern.proofs.Tests.{and_both, and_left, and_right, has_cases, has_here, has_there, has_among, among_has}

pub rising_below : {m : ℕ} {l : List ℕ} → Rising m l → (r : ℕ) → T (has l r) → r < m
rising_below {l = l} s r h = let a = has_among l r h in omega (arith, s.below a.0 a.1, a.2)

pub rising_none : {m : ℕ} → Rising m []
rising_none = record { below = λ i h. absurd (omega arith); rises = λ i h. absurd (omega arith) }

-- Numbers below `n` are below `n + 1`, also with `n` behind them.
pub rising_wider : {n : ℕ} {l : List ℕ} → Rising n l → Rising (suc n) l
rising_wider s = record { below = λ i h. omega (arith, s.below i h); rises = s.rises }

pub rising_one_more : {n : ℕ} {l : List ℕ} → Rising n l → Rising (suc n) (l ++ (n ∷ []))
rising_one_more {n} {l} s = record { below = λ i h. low i (last_or (length l) i (rw seam at h)); rises = λ i h. up i (last_or (length l) (suc i) (rw seam at h)) }
  where
    k : List ℕ
    k = l ++ (n ∷ [])

    seam : length (l ++ (n ∷ [])) ≡ suc (length l)
    seam = simp length-append (omega arith)

    front : (i : ℕ) → i < length l → at k i ≡ at l i
    front i h = get_or-append l (n ∷ []) 0 i h

    end : (i : ℕ) → i ≡ length l → at k i ≡ n
    end i e = ap (at k) e ∙ get_or-append_seam l n [] 0

    low : (i : ℕ) → (i < length l) ⊎ (i ≡ length l) → at k i < suc n
    low i (inl h) = omega (arith, front i h, s.below i h)
    low i (inr e) = omega (arith, end i e)

    up : (i : ℕ) → (suc i < length l) ⊎ (suc i ≡ length l) → at k i < at k (suc i)
    up i (inl h) = omega (arith, front i (omega arith), front (suc i) h, s.rises i h)
    up i (inr e) = omega (arith, front i (omega arith), end (suc i) e, s.below i (omega arith))

-- Over any distance.
pub rising_less : {m : ℕ} {l : List ℕ} → Rising m l → (i j : ℕ) → i < j → j < length l → at l i < at l j
rising_less {l = l} s i j h k =
    omega (arith, s.rises i (omega arith), climbs (at l) (length l - 1) (λ x u. omega (arith, s.rises x (omega arith), ap (at l) (add-one x))) (suc i) j h (omega arith))

pub rising_tail : {m x : ℕ} {l : List ℕ} → Rising m (x ∷ l) → Rising m l
rising_tail s = record { below = λ i h. s.below (suc i) (omega arith); rises = λ i h. s.rises (suc i) (omega arith) }

-- What stands behind the first number is greater.
pub rising_after : {m x : ℕ} {l : List ℕ} → Rising m (x ∷ l) → (r : ℕ) → T (has l r) → x < r
rising_after {l = []} s r h = absurd h
rising_after {x = x} {l = y ∷ l} s r h = go (has_cases y r l h) (λ u. rising_after (rising_tail s) r u)
  where
    go : (y ≡ r) ⊎ T (has l r) → (T (has l r) → y < r) → x < r
    go (inl e) f = omega (arith, s.rises 0 (omega arith))
    go (inr u) f = omega (arith, s.rises 0 (omega arith), f u)

-- And a lesser number may stand in front.
pub rising_front : {m x : ℕ} {l : List ℕ} → x < m → ((r : ℕ) → T (has l r) → x < r) → Rising m l → Rising m (x ∷ l)
rising_front {m} {x} {l} h less s = record { below = low; rises = up }
  where
    low : (i : ℕ) → i < suc (length l) → at (x ∷ l) i < m
    low zero b = h
    low (suc i) b = s.below i (omega arith)

    up : (i : ℕ) → suc i < suc (length l) → at (x ∷ l) i < at l i
    up zero b = less (at l 0) (among_has l 0 (omega arith))
    up (suc i) b = s.rises i (omega arith)

-- Lists that rise and have the same numbers are equal.
pub rising_same : {m : ℕ} (k l : List ℕ) → Rising m k → Rising m l → ((r : ℕ) → T (has k r) → T (has l r)) → ((r : ℕ) → T (has l r) → T (has k r))
    → k ≡ l
rising_same [] [] s t f g = refl
rising_same [] (y ∷ l) s t f g = absurd (g y (has_here y y l refl))
rising_same (x ∷ k) [] s t f g = absurd (f x (has_here x x k refl))
rising_same (x ∷ k) (y ∷ l) s t f g =
    ap₂ ◌∷◌ heads
    (rising_same k l (rising_tail s) (rising_tail t) (λ r h. behind y l r (omega (arith, heads, rising_after s r h)) (has_cases y r l (f r (has_there x r k h))))
    (λ r h. behind x k r (omega (arith, heads, rising_after t r h)) (has_cases x r k (g r (has_there y r l h)))))
  where
    first : (x ≡ y) ⊎ T (has k y) → (y ≡ x) ⊎ T (has l x) → x ≡ y
    first (inl e) d = e
    first (inr u) (inl e) = sym e
    first (inr u) (inr v) = omega (arith, rising_after s y u, rising_after t x v)

    heads : x ≡ y
    heads = first (has_cases x y k (g y (has_here y y l refl))) (has_cases y x l (f x (has_here x x k refl)))

    behind : (z : ℕ) (l : List ℕ) (r : ℕ) → z < r → (z ≡ r) ⊎ T (has l r) → T (has l r)
    behind z l r h (inl e) = absurd (omega arith)
    behind z l r h (inr u) = u

-- ---- The test

-- `x` is below the first number of a list.
unfoldable pub under : ℕ → List ℕ → Bool
under x [] = true
under x (y ∷ l) = ltb x y

unfoldable pub rising : ℕ → List ℕ → Bool
rising m [] = true
rising m (x ∷ l) = ltb x m && (under x l && rising m l)

pub test_rising : (m : ℕ) (l : List ℕ) → T (rising m l) → Rising m l
unfolding rising under
test_rising m [] t = record { below = λ i h. absurd (omega arith); rises = λ i h. absurd (omega arith) }
test_rising m (x ∷ l) t = go l (and_left (under x l) (rising m l) rest) (test_rising m l (and_right (under x l) (rising m l) rest))
  where
    rest : T (under x l && rising m l)
    rest = and_right (ltb x m) (under x l && rising m l) t

    low : x < m
    low = ltb→lt x m (and_left (ltb x m) (under x l && rising m l) t)

    go : (l : List ℕ) → T (under x l) → Rising m l → Rising m (x ∷ l)
    go [] u s = rising_front low (λ r h. absurd h) s
    go (y ∷ l) u s = rising_front low (λ r h. ⊎_elim (λ e. omega (arith, ltb→lt x y u)) (λ v. omega (arith, ltb→lt x y u, rising_after s r v)) (has_cases y r l h)) s

pub rising_test : (m : ℕ) (l : List ℕ) → Rising m l → T (rising m l)
unfolding rising under
rising_test m [] s = tt
rising_test m (x ∷ l) s =
    and_both (ltb x m) (under x l && rising m l) (lt→ltb x m (s.below 0 (omega arith))) (and_both (under x l) (rising m l) (first l (λ h. s.rises 0 h)) (rising_test m l (rising_tail s)))
  where
    first : (k : List ℕ) → (suc zero < suc (length k) → x < at k 0) → T (under x k)
    first [] f = tt
    first (y ∷ k) f = lt→ltb x y (f (omega arith))
