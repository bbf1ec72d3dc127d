-- A column is exchanged: where a greedy peel by old places has taken the rows and columns of the first places, each later place but
-- that of the column keeps its pair. So up to its place, and past all the rows that it gets, the peel is the old order.
-- Rests on Growing.antt and Finding.antt.
use mathlib.Core.List.{List, [], ◌∷◌, ◌++◌}
use mathlib.Core.Logic.{◌≢◌, ⊎_elim}
use mathlib.Core.Path.{◌≡◌, refl, sym, ap, ◌∙◌, subst}
use Prim.Native.Nat.{ℕ, zero, suc, ◌≤◌, ◌<◌}
use native.Mathlib.Decide.{dec_lt}
use native.Mathlib.Omega.{arith}
use lib.ListN.{length}
use lib.Seq.{get_or_at}
use Rattle.pattern.specs.Order.{Sound}
use Rattle.pattern.specs.Pattern.{Pattern, RowsBelow, Spiked}
use Rattle.pattern.specs.Peel.{Available}
use Rattle.pattern.specs.Places.{at, Among, Once, Outside, Same, place}
use Rattle.pattern.proofs.Finding.{place_at, place_of, place_once}
use Rattle.pattern.proofs.Growing.{Grown, grown_none, grown_more, snoc_old, snoc_each}
use Rattle.pattern.proofs.Once.{onto, once_through}
use Rattle.pattern.proofs.Search.{last_or}

-- Numbers that all have places below `n`.
abbrev Low : (f : ℕ → ℕ) (m n : ℕ) (l : List ℕ) → Type 0
Low f m n l = (i : ℕ) → i < n → place f m (at l i) < n

module _ {f : ℕ → ℕ} {m n : ℕ} (o : Once f m m) (l : List ℕ) where
  -- Where there are `n` of them, they are all that have.
  low_all : Once (at l) n m → Low f m n l → (t : ℕ) → t < n → t < m → Among (at l) n (f t)
  low_all k low t h u =
      let a = onto (record { below = low; once = (once_through k (place_once o)).once }) t h in
      (a.0, a.1, sym (place_of o (at l a.0) (k.below a.0 a.1)).1 ∙ ap f a.2)

  -- One of place `n` is not among them.
  low_next : Low f m n l → n < m → Outside (at l) n (f n)
  low_next low h i u e = omega (arith, low i u, ap (place f m) e, place_at o n h)

  low_more : length l ≡ n → n < m → Low f m n l → Low f m (suc n) (l ++ (f n ∷ []))
  low_more e h low = snoc_each (λ x. place f m x < suc n) l (f n) n e (λ i u. omega (arith, low i u)) (omega (arith, place_at o n h))

-- A greedy peel by the places of `col` has taken the rows and the columns of the first `n` places.
pub record Taken (E : Pattern) (m : ℕ) (row col : ℕ → ℕ) (n : ℕ) (ps qs : List ℕ) : Type 0 where
  pub grown : Grown E m (place col m) n ps qs
  pub rows : Low row m n ps
  pub cols : Low col m n qs

pub taken_none : {E : Pattern} {m : ℕ} {row col : ℕ → ℕ} → Taken E m row col 0 [] []
taken_none = record { grown = grown_none; rows = λ i h. absurd (omega arith); cols = λ i h. absurd (omega arith) }

-- From place `n` up to `e` it has then taken the pairs of those places.
pub record GoesOn (E : Pattern) (m : ℕ) (row col : ℕ → ℕ) (n e : ℕ) (ps qs : List ℕ) : Type 0 where
  pub rows : List ℕ
  pub cols : List ℕ
  pub taken : Taken E m row col e rows cols
  pub rows_same : Same n (at ps) (at rows)
  pub cols_same : Same n (at qs) (at cols)
  pub rows_old : (i : ℕ) → n ≤ i → i < e → at rows i ≡ row i
  pub cols_old : (i : ℕ) → n ≤ i → i < e → at cols i ≡ col i

goes_none : {E : Pattern} {m : ℕ} {row col : ℕ → ℕ} {n e : ℕ} {ps qs : List ℕ} → n ≡ e → Taken E m row col n ps qs → GoesOn E m row col n e ps qs
goes_none {E} {m} {row} {col} {ps = ps} {qs = qs} z k =
    record {
      rows = ps;
      cols = qs;
      taken = subst (λ (i : ℕ). Taken E m row col i ps qs) z k;
      rows_same = λ i h. refl;
      cols_same = λ i h. refl;
      rows_old = λ i h u. absurd (omega arith);
      cols_old = λ i h u. absurd (omega arith);
    }

module _ {E E' : Pattern} {m c : ℕ} {New : ℕ → Type 0} {row col : ℕ → ℕ} (s : Sound E m row col) (w : Spiked E E' c New) (b : RowsBelow E m) where
  -- The next place has another column than `c`.
  module _ {n : ℕ} {ps qs : List ℕ} (h : n < m) (d : col n ≢ c) (k : Taken E' m row col n ps qs) where
    next : Available E' m n (at ps) (at qs) (col n) (row n)
    next =
        record {
          col_below = s.cols.below n h;
          col_left = low_next s.cols qs k.cols h;
          row_below = s.rows.below n h;
          row_left = low_next s.rows ps k.rows h;
          present = (w.others (row n) (col n) d).0 (s.paired n h);
          only = λ r e o. only r ((w.others r (col n) d).1 e) o;
        }
      where
        only : (r : ℕ) → E r (col n) → Outside (at ps) n r → r ≡ row n
        only r e o =
            let q = place_of s.rows r (b r (col n) e) in
            go (s.upper (place row m r) n q.0 h (subst (λ (z : ℕ). E z (col n)) (sym q.1) e)) q.1 (dec_lt (place row m r) n)
          where
            go : place row m r ≤ n → row (place row m r) ≡ r → Dec (place row m r < n) → r ≡ row n
            go u z (yes l) = let a = low_all s.rows ps k.grown.peel.rows k.rows (place row m r) l (omega arith) in absurd (o a.0 a.1 (a.2 ∙ z))
            go u z (no l) = let e : place row m r ≡ n = omega arith in sym z ∙ ap row e

    -- Whatever is available stands at this place or a later one.
    lowest : (z r : ℕ) → Available E' m n (at ps) (at qs) z r → place col m (col n) ≤ place col m z
    lowest z r a = go (dec_lt (place col m z) n) (place_of s.cols z a.col_below).1
      where
        go : Dec (place col m z < n) → col (place col m z) ≡ z → place col m (col n) ≤ place col m z
        go (yes l) e = let f = low_all s.cols qs k.grown.peel.cols k.cols (place col m z) l (omega arith) in absurd (a.col_left f.0 f.1 (f.2 ∙ e))
        go (no l) e = omega (arith, place_at s.cols n h)

    taken_next : Taken E' m row col (suc n) (ps ++ (row n ∷ [])) (qs ++ (col n ∷ []))
    taken_next =
        record {
          grown = grown_more k.grown next lowest;
          rows = low_more s.rows ps k.grown.rows h k.rows;
          cols = low_more s.cols qs k.grown.cols h k.cols;
        }

  -- One place further.
  goes_next : {n e : ℕ} {ps qs : List ℕ} → n ≤ e → e < m → col e ≢ c → GoesOn E' m row col n e ps qs → GoesOn E' m row col n (suc e) ps qs
  goes_next {n} {e} h l d g =
      let r = snoc_old g.rows (row e) e g.taken.grown.rows in
      let q = snoc_old g.cols (col e) e g.taken.grown.cols in
      record {
        rows = g.rows ++ (row e ∷ []);
        cols = g.cols ++ (col e ∷ []);
        taken = taken_next l d g.taken;
        rows_same = λ i v. g.rows_same i v ∙ r i (omega arith);
        cols_same = λ i v. g.cols_same i v ∙ q i (omega arith);
        rows_old = λ i v o. ⊎_elim (λ y. sym (r i y) ∙ g.rows_old i v y) (λ z. rw z (get_or_at g.rows (row e) [] 0 e g.taken.grown.rows)) (last_or e i o);
        cols_old = λ i v o. ⊎_elim (λ y. sym (q i y) ∙ g.cols_old i v y) (λ z. rw z (get_or_at g.cols (col e) [] 0 e g.taken.grown.cols)) (last_or e i o);
      }

  pub goes_on : {n : ℕ} {ps qs : List ℕ} (e : ℕ) → n ≤ e → e ≤ m → ((i : ℕ) → n ≤ i → i < e → col i ≢ c) → Taken E' m row col n ps qs
      → GoesOn E' m row col n e ps qs
  goes_on {n} {ps} {qs} zero h l d k = goes_none (omega arith) k
  goes_on {n} {ps} {qs} (suc e) h l d k = go (λ u. goes_on e u (omega arith) (λ i v o. d i v (omega arith)) k) (dec_lt e n)
    where
      go : (n ≤ e → GoesOn E' m row col n e ps qs) → Dec (e < n) → GoesOn E' m row col n (suc e) ps qs
      go before (yes u) = goes_none (omega arith) k
      go before (no u) = let v : n ≤ e = omega arith in goes_next v (omega arith) (d e v (omega arith)) (before v)
