-- Numbers after spaces: one more in front, one more behind, and how many bytes they have at least. Rests on Decimals.antt.
use mathlib.Core.List.{List, [], ◌∷◌, ◌++◌, append-nil, append_assoc}
use mathlib.Core.Path.{◌≡◌, refl, sym, ap, ◌∙◌}
use Prim.Native.Nat.{ℕ, ◌+◌, ◌≤◌}
use native.Mathlib.Omega.{arith}
use lib.ListN.{length, length-append}
use Rattle.text.specs.Series.{series}
use Rattle.text.specs.Text.{space, decimal, spaced}
use Rattle.text.proofs.Decimals.{decimal_some}

pub spaced_none : spaced [] ≡ []
unfolding series
spaced_none = refl

pub spaced_front : (n : ℕ) (l : List ℕ) → spaced (n ∷ l) ≡ (space ∷ decimal n) ++ spaced l
unfolding series
spaced_front n l = refl

pub spaced_behind : (l : List ℕ) (n : ℕ) → spaced (l ++ (n ∷ [])) ≡ spaced l ++ (space ∷ decimal n)
spaced_behind [] n = spaced_front n [] ∙ ap (λ (t : List ℕ). (space ∷ decimal n) ++ t) spaced_none ∙ append-nil (space ∷ decimal n) ∙ ap (λ (t : List ℕ). t ++ (space ∷ decimal n)) (sym spaced_none)
spaced_behind (x ∷ l) n =
    spaced_front x (l ++ (n ∷ []))
    ∙ ap (λ (t : List ℕ). (space ∷ decimal x) ++ t) (spaced_behind l n)
    ∙ sym (append_assoc (space ∷ decimal x) (spaced l) (space ∷ decimal n))
    ∙ ap (λ (t : List ℕ). t ++ (space ∷ decimal n)) (sym (spaced_front x l))

-- A space and a digit at least for each number.
pub spaced_long : (l : List ℕ) → length l + length l ≤ length (spaced l)
spaced_long [] = omega arith
spaced_long (n ∷ l) =
    omega (arith, ap length (spaced_front n l), length-append (space ∷ decimal n) (spaced l), decimal_some n, spaced_long l)

pub spaced_one : (n : ℕ) → spaced (n ∷ []) ≡ space ∷ decimal n
unfolding series
spaced_one n = append-nil (space ∷ decimal n)
