-- What is left of a series at a place of its list: the bytes of one thing and what is left behind it, and nothing at the end.
-- Rests on specs/Series.antt.
use mathlib.Core.List.{List, [], ◌∷◌, ◌++◌}
use mathlib.Core.Path.{◌≡◌}
use Prim.Native.Nat.{ℕ, suc, ◌+◌, ◌*◌, ◌≤◌, ◌<◌}
use native.Mathlib.Numerals.{add-one}
use native.Mathlib.Omega.{arith}
use lib.ListN.{length, get_or, drop, length-append, drop_of_length-le}
use lib.Seq.{drop-cons}
use Rattle.text.specs.Series.{series}

module _ {A : Type 0} (one : ℕ → A → List ℕ) (after : ℕ → A → ℕ) where
  -- At place `k`, where the number `s` is known.
  abbrev pub left : List A → (k s : ℕ) → List ℕ
  left L k s = series one after s (drop k L)

  pub left_more : (L : List A) (d : A) (k s : ℕ) → k < length L → left L k s ≡ one s (get_or L k d) ++ left L (k + 1) (after s (get_or L k d))
  unfolding series
  left_more L d k s h = rw (add-one, drop-cons L k d h)

  pub left_all : (L : List A) (k s : ℕ) → length L ≤ k → left L k s ≡ []
  unfolding series
  left_all L k s h = rw (drop_of_length-le L h)

  -- Where no thing has more than `b` bytes.
  pub series_few : (b : ℕ) (L : List A) (d : A) → ((k s : ℕ) → k < length L → length (one s (get_or L k d)) ≤ b) → (s : ℕ) → length (series one after s L) ≤ length L * b
  unfolding series
  series_few b [] d few s = omega arith
  series_few b (x ∷ L) d few s =
      omega
      (arith, length-append (one s x) (series one after (after s x) L), few 0 s (omega arith), series_few b L d (λ k t h. few (suc k) t (omega arith)) (after s x))
