-- What stands between two places of a list. Rests on specs/Listing.antt.
use mathlib.Core.List.{List, [], ◌∷◌, ◌++◌}
use mathlib.Core.Path.{◌≡◌, sym, ap, ◌∙◌}
use Prim.Native.Nat.{ℕ, ◌+◌, ◌-◌, ◌≤◌, ◌<◌, suc}
use native.Mathlib.Omega.{arith}
use lib.ListN.{length, take, drop, length-take, length-drop}
use lib.Seq.{ext_get_or, length-take-le, get_or-take, get_or-drop, take-suc, take-add, drop-drop}
use Rattle.pattern.specs.Places.{at}
use Rattle.listing.specs.Listing.{between}

module _ (a b : ℕ) (l : List ℕ) where
  pub between_length : b ≤ length l → length (between a b l) ≡ b - a
  between_length h = length-take (b - a) (drop a l) ∙ omega (arith, length-drop a l)

  pub between_at : (i : ℕ) → a + i < b → at (between a b l) i ≡ at l (a + i)
  between_at i h = get_or-take (b - a) (drop a l) i 0 (omega arith) ∙ get_or-drop a l i 0

pub between_front : (n : ℕ) (l : List ℕ) → between 0 n l ≡ take n l
between_front n l = let e : n - 0 ≡ n = omega arith in ap (λ (k : ℕ). take k l) e

pub between_none : (a : ℕ) (l : List ℕ) → between a a l ≡ []
between_none a l = let e : a - a ≡ 0 = omega arith in ap (λ (n : ℕ). take n (drop a l)) e

-- One number more, and one alone.
pub between_more : (a b : ℕ) (l : List ℕ) → a ≤ b → b < length l → between a (b + 1) l ≡ between a b l ++ (at l b ∷ [])
between_more a b l h k =
    let n : b + 1 - a ≡ suc (b - a) = omega arith in
    let e : a + (b - a) ≡ b = omega arith in
    ap (λ (n : ℕ). take n (drop a l)) n
    ∙ take-suc (drop a l) (b - a) 0 (omega (arith, length-drop a l))
    ∙ ap (λ (x : ℕ). between a b l ++ (x ∷ [])) (get_or-drop a l (b - a) 0 ∙ ap (at l) e)

pub between_one : (a : ℕ) (l : List ℕ) → a < length l → between a (a + 1) l ≡ at l a ∷ []
between_one a l h = between_more a a l (omega arith) h ∙ ap (λ (j : List ℕ). j ++ (at l a ∷ [])) (between_none a l)

-- Lists that agree there have the same there.
pub between_same : (a b : ℕ) (k l : List ℕ) → b ≤ length k → b ≤ length l → ((i : ℕ) → a ≤ i → i < b → at k i ≡ at l i) → between a b k ≡ between a b l
between_same a b k l hk hl e =
    ext_get_or 0 (between a b k) (between a b l) (between_length a b k hk ∙ sym (between_length a b l hl))
    (λ i h. let u : a + i < b = omega (arith, between_length a b k hk) in between_at a b k i u ∙ e (a + i) (omega arith) u ∙ sym (between_at a b l i u))

-- Up to a place, and from there on.
module _ (a b : ℕ) (l : List ℕ) (h : a ≤ b) where
  pub take_between : take a l ++ between a b l ≡ take b l
  take_between = let e : a + (b - a) ≡ b = omega arith in sym (take-add a (b - a) l) ∙ ap (λ (n : ℕ). take n l) e

  pub between_between : (c : ℕ) → b ≤ c → between a b l ++ between b c l ≡ between a c l
  between_between c k =
      let n : (b - a) + (c - b) ≡ c - a = omega arith in
      let e : a + (b - a) ≡ b = omega arith in
      ap (λ (j : List ℕ). between a b l ++ take (c - b) j) (ap (λ (i : ℕ). drop i l) (sym e) ∙ sym (drop-drop (b - a) a l))
      ∙ sym (take-add (b - a) (c - b) (drop a l))
      ∙ ap (λ (i : ℕ). take i (drop a l)) n

-- The number at a place among the first `n`.
pub first_at : {n i : ℕ} (l : List ℕ) → n ≤ length l → i < length (take n l) → (i < n) × (at (take n l) i ≡ at l i)
first_at {n} {i} l h b = let u : i < n = omega (arith, length-take-le n l h) in (u, get_or-take n l i 0 u)
