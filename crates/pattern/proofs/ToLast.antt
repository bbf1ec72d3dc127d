-- After ELIMINATION: with row `r` of the spiked pattern cleared and given the single entry `(r, c)`, the old order with the
-- pair `(r, c)` moved to the last place is sound. Rests on Pairing.antt.
use mathlib.Core.List.{List, [], ◌∷◌, ◌++◌}
use mathlib.Core.Logic.{◌≢◌, ◌⊎◌, inl, inr, ite}
use mathlib.Core.Path.{◌≡◌, sym, ap, ◌∙◌, subst, subst₂}
use Prim.Native.Nat.{ℕ, suc, ◌+◌, ◌-◌, ◌≤◌, ◌<◌, min}
use native.Mathlib.Decide.{ℕ_discrete, dec_lt}
use native.Mathlib.Omega.{arith}
use lib.ListN.{length, take, drop, length-append, length-drop, get_or-append}
use lib.Seq.{get_or-take, get_or-drop, get_or-append-add, get_or_at, length-take-le}
use Rattle.pattern.specs.Order.{Sound, SoundOrder}
use Rattle.pattern.specs.Pattern.{Pattern, Spiked, Cleared}
use Rattle.pattern.specs.Places.{at, Once}
use Rattle.pattern.specs.Verdict.{to_last}
use Rattle.pattern.proofs.Search.{ite_cases}
use Rattle.pattern.proofs.Once.{once_through}
use Rattle.pattern.proofs.Pairing.{sound_same}

-- ---- Where each place comes from when place `t` of `m` goes to the end

from : ℕ → ℕ → ℕ → ℕ
from t m i = ite (dec_lt (suc i) m) (i + min 1 (suc i - t)) t

-- The last place comes from `t`; of the others, those from `t` on come from the place behind.
abbrev pub From : ℕ → ℕ → ℕ → ℕ → Type 0
From t m i j = ((suc i < m) × (j ≡ i + min 1 (suc i - t))) ⊎ (¬ (suc i < m) × (j ≡ t))

module _ (t m : ℕ) where
  from_is : (i : ℕ) → From t m i (from t m i)
  unfolding from
  from_is i = ite_cases (dec_lt (suc i) m) (i + min 1 (suc i - t)) t

  from_below : t < m → (i : ℕ) → i < m → from t m i < m
  from_below l i h = go (from t m i) (from_is i)
    where
      go : (j : ℕ) → From t m i j → j < m
      go j (inl a) = omega arith
      go j (inr a) = omega arith

  -- The place that comes from `t` is the last.
  from_last : (i k : ℕ) → i < m → k < m → from t m k ≡ t → i ≤ k
  from_last i k hi hk e = go (from t m k) e (from_is k)
    where
      go : (x : ℕ) → x ≡ t → From t m k x → i ≤ k
      go x e (inl a) = absurd (omega arith)
      go x e (inr a) = omega (arith, a.0)

  skip_order : (i k : ℕ) → i + min 1 (suc i - t) ≤ k + min 1 (suc k - t) → i ≤ k
  skip_order i k h = omega arith

  -- The others keep their order.
  from_order : (i k : ℕ) → from t m i ≢ t → from t m k ≢ t → from t m i ≤ from t m k → i ≤ k
  from_order i k ni nk h = go (from_is i) (from_is k)
    where
      go : From t m i (from t m i) → From t m k (from t m k) → i ≤ k
      go (inl a) (inl b) = skip_order i k (subst₂ ◌≤◌ a.1 b.1 h)
      go (inl a) (inr b) = absurd (nk b.1)
      go (inr a) d = absurd (ni a.1)

  from_apart : (i k : ℕ) → i < m → k < m → from t m i ≡ from t m k → i ≡ k
  from_apart i k hi hk e = go (ℕ_discrete (from t m i) t) (ℕ_discrete (from t m k) t)
    where
      go : Dec (from t m i ≡ t) → Dec (from t m k ≡ t) → i ≡ k
      go (yes u) (yes v) = omega (arith, from_last i k hi hk v, from_last k i hk hi u)
      go (yes u) (no v) = absurd (v (sym e ∙ u))
      go (no u) (yes v) = absurd (u (e ∙ v))
      go (no u) (no v) = omega (arith, from_order i k u v (omega arith), from_order k i v u (omega arith))

-- ---- The order so moved is sound

moved_sound : {E E' E'' : Pattern} {m : ℕ} {row col : ℕ → ℕ} {New : ℕ → Type 0} (t : ℕ) → t < m → Sound E m row col → Spiked E E' (col t) New
    → Cleared E' E'' (row t) (col t)
    → Sound E'' m (λ i. row (from t m i)) (λ i. col (from t m i))
moved_sound {E} {E'} {E''} {m} {row} {col} t l s w k =
    record {
      rows = once_through π_once s.rows;
      cols = once_through π_once s.cols;
      paired = λ i h. pair i h (ℕ_discrete (π i) t);
      upper = λ i j hi hj e. up i j hi hj e (ℕ_discrete (π i) t) (ℕ_discrete (π j) t);
    }
  where
    π : ℕ → ℕ
    π = from t m

    π_once : Once π m m
    π_once = record { below = from_below t m l; once = from_apart t m }

    πw : (i : ℕ) → i < m → π i < m
    πw = π_once.below

    other_row : (i : ℕ) → i < m → π i ≢ t → row (π i) ≢ row t
    other_row i h n e = n (s.rows.once (π i) t (πw i h) l e)

    other_col : (i : ℕ) → i < m → π i ≢ t → col (π i) ≢ col t
    other_col i h n e = n (s.cols.once (π i) t (πw i h) l e)

    pair : (i : ℕ) → i < m → Dec (π i ≡ t) → E'' (row (π i)) (col (π i))
    pair i h (yes e) = subst (λ (j : ℕ). E'' (row j) (col j)) (sym e) k.given
    pair i h (no n) = (k.others (row (π i)) (col (π i)) (other_row i h n)).0 ((w.others (row (π i)) (col (π i)) (other_col i h n)).0 (s.paired (π i) (πw i h)))

    up : (i j : ℕ) → i < m → j < m → E'' (row (π i)) (col (π j)) → Dec (π i ≡ t) → Dec (π j ≡ t) → i ≤ j
    up i j hi hj e d (yes v) = from_last t m i j hi hj v
    up i j hi hj e (yes u) (no v) = absurd (other_col j hj v (k.alone (col (π j)) (subst (λ (z : ℕ). E'' (row z) (col (π j))) u e)))
    up i j hi hj e (no u) (no v) =
        from_order t m i j u v
        (s.upper (π i) (π j) (πw i hi) (πw j hj) ((w.others (row (π i)) (col (π j)) (other_col j hj v)).1 ((k.others (row (π i)) (col (π j)) (other_row i hi u)).1 e)))

-- ---- The same of lists

module _ (l : List ℕ) (t m : ℕ) (e : length l ≡ m) (h : t < m) where
  front : length (take t l) ≡ t
  front = length-take-le t l (omega arith)

  others : length (take t l ++ drop (suc t) l) ≡ m - 1
  others = omega (arith, length-append (take t l) (drop (suc t) l), front, length-drop (suc t) l)

  pub to_last_length : length (to_last t l) ≡ m
  unfolding to_last
  to_last_length = omega (arith, length-append (take t l ++ drop (suc t) l) (at l t ∷ []), others)

  to_last_at : (i : ℕ) → i < m → at (to_last t l) i ≡ at l (from t m i)
  unfolding to_last
  to_last_at i k = go (from t m i) (from_is t m i) (dec_lt i t)
    where
      go : (x : ℕ) → From t m i x → Dec (i < t) → at (to_last t l) i ≡ at l x
      go x (inr a) d =
          ap (at (to_last t l)) (omega (arith, a.0)) ∙ get_or_at (take t l ++ drop (suc t) l) (at l t) [] 0 (m - 1) others ∙ ap (at l) (sym a.1)
      go x (inl a) (yes d) =
          get_or-append (take t l ++ drop (suc t) l) (at l t ∷ []) 0 i (omega (arith, others))
          ∙ get_or-append (take t l) (drop (suc t) l) 0 i (omega (arith, front))
          ∙ get_or-take t l i 0 d
          ∙ ap (at l) (omega arith)
      go x (inl a) (no d) =
          get_or-append (take t l ++ drop (suc t) l) (at l t ∷ []) 0 i (omega (arith, others))
          ∙ ap (at (take t l ++ drop (suc t) l)) (omega (arith, front))
          ∙ get_or-append-add (take t l) (drop (suc t) l) (i - t) 0
          ∙ get_or-drop (suc t) l (i - t) 0
          ∙ ap (at l) (omega arith)

-- Each place and where what stands there comes from.
pub to_last_from : (l : List ℕ) (t m : ℕ) → length l ≡ m → t < m → (i : ℕ) → i < m → (j : ℕ) × From t m i j × (at (to_last t l) i ≡ at l j)
to_last_from l t m e h i k = (from t m i, from_is t m i, to_last_at l t m e h i k)

pub to_last_sound : {E E' E'' : Pattern} {m : ℕ} {rows cols : List ℕ} {New : ℕ → Type 0} (t : ℕ) → t < m → SoundOrder E m rows cols
    → Spiked E E' (at cols t) New
    → Cleared E' E'' (at rows t) (at cols t) → SoundOrder E'' m (to_last t rows) (to_last t cols)
to_last_sound {m = m} {rows = rows} {cols = cols} t l o w k =
    record {
      row_count = to_last_length rows t m o.row_count l;
      col_count = to_last_length cols t m o.col_count l;
      sound =
          sound_same (λ i h. sym (to_last_at rows t m o.row_count l i h)) (λ i h. sym (to_last_at cols t m o.col_count l i h))
          (moved_sound t l o.sound w k);
    }
