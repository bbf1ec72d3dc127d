-- A peel grows by an available column, and a greedy one by one of the least key. Rests on Once.antt and Peeling.antt.
use mathlib.Core.List.{List, [], ◌∷◌, ◌++◌}
use mathlib.Core.Logic.{◌⊎◌, inl, inr}
use mathlib.Core.Path.{◌≡◌, refl, sym, ap, ◌∙◌, subst, subst₂}
use Prim.Native.Nat.{ℕ, suc, ◌≤◌, ◌<◌}
use native.Mathlib.Omega.{arith}
use lib.ListN.{length, length-append, get_or-append}
use lib.Seq.{get_or_at}
use Rattle.pattern.specs.Order.{Triangular}
use Rattle.pattern.specs.Pattern.{Pattern, RowsBelow}
use Rattle.pattern.specs.Peel.{Peel, Available, Whole}
use Rattle.pattern.specs.Places.{at, Among, Outside, Same}
use Rattle.pattern.proofs.Peeling.{never_stuck}
use Rattle.pattern.proofs.Search.{last_or, among_or}
use Rattle.pattern.proofs.Once.{once_none, once_more, once_same}

pub peel_same : {E : Pattern} {m n : ℕ} {row col row' col' : ℕ → ℕ} → Same n row row' → Same n col col' → Peel E m n row col → Peel E m n row' col'
peel_same {E} {m} {n} {row} {col} {row'} {col'} a b k =
    record {
      rows = once_same a k.rows;
      cols = once_same b k.cols;
      paired = λ i h. subst₂ E (a i h) (b i h) (k.paired i h);
      passed = λ i h r e. carry i h r (k.passed i h r (subst (E r) (sym (b i h)) e));
    }
  where
    carry : (i : ℕ) → i < n → (r : ℕ) → Among row (suc i) r → Among row' (suc i) r
    carry i h r c = (c.0, c.1, sym (a c.0 (omega (arith, c.1))) ∙ c.2)

pub available_same : {E : Pattern} {m n : ℕ} {row col row' col' : ℕ → ℕ} {y r : ℕ} → Same n row row' → Same n col col' → Available E m n row col y r
    → Available E m n row' col' y r
available_same a b k =
    record {
      col_below = k.col_below;
      col_left = λ i h e. k.col_left i h (b i h ∙ e);
      row_below = k.row_below;
      row_left = λ i h e. k.row_left i h (a i h ∙ e);
      present = k.present;
      only = λ s e o. k.only s e (λ i h u. o i h (sym (a i h) ∙ u));
    }

-- The peel of no place.
pub peel_none : {E : Pattern} {m : ℕ} {row col : ℕ → ℕ} → Peel E m 0 row col
peel_none =
    record { rows = once_none; cols = once_none; paired = λ i h. absurd (omega arith); passed = λ i h. absurd (omega arith) }

-- One place more.
pub peel_grows : {E : Pattern} {m n : ℕ} {row col : ℕ → ℕ} → Peel E m n row col → Available E m n row col (col n) (row n) → Peel E m (suc n) row col
peel_grows {E} {m} {n} {row} {col} k v =
    record {
      rows = once_more k.rows v.row_below v.row_left;
      cols = once_more k.cols v.col_below v.col_left;
      paired = λ i h. pair i (last_or n i h);
      passed = λ i h. pass i (last_or n i h);
    }
  where
    pair : (i : ℕ) → (i < n) ⊎ (i ≡ n) → E (row i) (col i)
    pair i (inl l) = k.paired i l
    pair i (inr e) = subst (λ (j : ℕ). E (row j) (col j)) (sym e) v.present

    at_last : (r : ℕ) → E r (col n) → Among row n r ⊎ Outside row n r → Among row (suc n) r
    at_last r e (inl a) = (a.0, omega (arith, a.1), a.2)
    at_last r e (inr o) = (n, omega arith, sym (v.only r e o))

    pass : (i : ℕ) → (i < n) ⊎ (i ≡ n) → (r : ℕ) → E r (col i) → Among row (suc i) r
    pass i (inl l) = k.passed i l
    pass i (inr u) = subst (λ (j : ℕ). (r : ℕ) → E r (col j) → Among row (suc j) r) (sym u) (λ r e. at_last r e (among_or row n r))

-- ---- A greedy peel that grows, as two lists

-- What holds of the rows and the columns taken so far.
pub record Grown (E : Pattern) (m : ℕ) (key : ℕ → ℕ) (n : ℕ) (ps qs : List ℕ) : Type 0 where
  pub rows : length ps ≡ n
  pub cols : length qs ≡ n
  pub peel : Peel E m n (at ps) (at qs)
  pub least : (i : ℕ) → i < n → (y r : ℕ) → Available E m i (at ps) (at qs) y r → key (at qs i) ≤ key y

-- One more at the end of a list.
pub snoc_old : (l : List ℕ) (x n : ℕ) → length l ≡ n → Same n (at l) (at (l ++ (x ∷ [])))
snoc_old l x n e i h = sym (get_or-append l (x ∷ []) 0 i (omega arith))

-- What holds of each number holds of each then, where it holds of the one more.
pub snoc_each : (A : ℕ → Type 0) (l : List ℕ) (x n : ℕ) → length l ≡ n → ((i : ℕ) → i < n → A (at l i)) → A x → (i : ℕ) → i < suc n → A (at (l ++ (x ∷ [])) i)
snoc_each A l x n e each a i h = go (last_or n i h)
  where
    go : (i < n) ⊎ (i ≡ n) → A (at (l ++ (x ∷ [])) i)
    go (inl u) = subst A (snoc_old l x n e i u) (each i u)
    go (inr z) = subst A (sym (ap (at (l ++ (x ∷ []))) z ∙ get_or_at l x [] 0 n e)) a

module _ {E : Pattern} {m : ℕ} {key : ℕ → ℕ} where
  pub grown_none : Grown E m key 0 [] []
  grown_none = record { rows = refl; cols = refl; peel = peel_none; least = λ i h. absurd (omega arith) }

  -- One place more: an available column that has no greater key than another.
  pub grown_more : {n y x : ℕ} {ps qs : List ℕ} → Grown E m key n ps qs → Available E m n (at ps) (at qs) y x
      → ((z r : ℕ) → Available E m n (at ps) (at qs) z r → key y ≤ key z) → Grown E m key (suc n) (ps ++ (x ∷ [])) (qs ++ (y ∷ []))
  grown_more {n} {y} {x} {ps} {qs} g a lowest =
      record {
        rows = omega (arith, length-append ps (x ∷ []), g.rows);
        cols = omega (arith, length-append qs (y ∷ []), g.cols);
        peel = peel_grows (peel_same old_rows old_cols g.peel) (subst₂ (Available E m n (at ps') (at qs')) (sym new_col) (sym new_row) (available_same old_rows old_cols a));
        least = λ i h z r v. minimal i z r v (last_or n i h);
      }
    where
      ps' : List ℕ
      ps' = ps ++ (x ∷ [])

      qs' : List ℕ
      qs' = qs ++ (y ∷ [])

      old_rows : Same n (at ps) (at ps')
      old_rows = snoc_old ps x n g.rows

      old_cols : Same n (at qs) (at qs')
      old_cols = snoc_old qs y n g.cols

      new_row : at ps' n ≡ x
      new_row = get_or_at ps x [] 0 n g.rows

      new_col : at qs' n ≡ y
      new_col = get_or_at qs y [] 0 n g.cols

      -- at a place up to the last, what is available beside the longer lists is so beside the shorter
      shorter : (i : ℕ) → i ≤ n → (z r : ℕ) → Available E m i (at ps') (at qs') z r → Available E m i (at ps) (at qs) z r
      shorter i h z r v = available_same (λ j u. sym (old_rows j (omega arith))) (λ j u. sym (old_cols j (omega arith))) v

      minimal : (i z r : ℕ) → Available E m i (at ps') (at qs') z r → (i < n) ⊎ (i ≡ n) → key (at qs' i) ≤ key z
      minimal i z r v (inl h) = subst (λ (w : ℕ). key w ≤ key z) (old_cols i h) (g.least i h z r (shorter i (omega arith) z r v))
      minimal i z r v (inr e) =
          omega (
            arith,
            ap (λ (j : ℕ). key (at qs' j)) e,
            ap key new_col,
            lowest z r (shorter n (omega arith) z r (subst (λ (j : ℕ). Available E m j (at ps') (at qs') z r) e v)),
          )

  -- At full length it is whole.
  pub grown_full : {ps qs : List ℕ} → Grown E m key m ps qs → Whole E m key ps qs
  grown_full g = record { row_count = g.rows; col_count = g.cols; greedy = record { peel = g.peel; least = g.least } }

  -- Where no column is available before that, there is no sound order.
  pub grown_stuck : {n : ℕ} {ps qs : List ℕ} → RowsBelow E m → Grown E m key n ps qs → n < m
      → ((y r : ℕ) → ¬ Available E m n (at ps) (at qs) y r) → ¬ Triangular E m
  grown_stuck b g h none t = let a = never_stuck b t.2 g.peel h in none a.0 a.1 a.2

-- A whole peel by keys that are the same.
pub whole_keys : {E : Pattern} {m : ℕ} {key key' : ℕ → ℕ} {rows cols : List ℕ} → ((y : ℕ) → y < m → key y ≡ key' y) → Whole E m key rows cols → Whole E m key' rows cols
whole_keys {m = m} {cols = cols} same w =
    record {
      row_count = w.row_count;
      col_count = w.col_count;
      greedy = record {
        peel = w.greedy.peel;
        least = λ i h y r v.
            omega (arith, w.greedy.least i h y r v, same y v.col_below, same (at cols i) (w.greedy.peel.cols.below i h));
      };
    }
