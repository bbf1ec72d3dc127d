-- The greedy peel of a window by its counts: a column of the window is available exactly when its count is one.
-- Rests on PeelCounts.antt, NewRows.antt and `pattern`.
use mathlib.Core.List.{List, [], ◌∷◌, ◌++◌}
use mathlib.Core.Logic.{◌≢◌, ◌↔◌, ◌⊎◌, inl, inr, ⊎_elim}
use mathlib.Core.Path.{◌≡◌, sym, ap, ◌∙◌}
use Prim.Native.Nat.{ℕ, ◌+◌, ◌≤◌, ◌<◌}
use native.Mathlib.Decide.{ℕ_discrete, dec_lt}
use native.Mathlib.Numerals.{add-one}
use native.Mathlib.Omega.{arith}
use lib.Dec.{T}
use lib.ListN.{length, set, length-set}
use lib.Seq.{get_or-set_same, get_or-set_other, get_or_at}
use Rattle.pattern.specs.Pattern.{has, column, Entry}
use Rattle.pattern.specs.Peel.{Available}
use Rattle.pattern.specs.Places.{at, Among, Outside, Once, place}
use Rattle.pattern.proofs.Finding.{place_at, place_of}
use Rattle.pattern.proofs.Growing.{Grown, grown_more, snoc_old, snoc_each}
use Rattle.pattern.proofs.Search.{last_or}
use Rattle.pattern.proofs.Tests.{among_has}
use Rattle.pattern.proofs.Turning.{Columns, row_below}
use Rattle.listing.specs.Limits.{max_size}
use Rattle.judge.specs.Peel.{unplaced, SomeLeft, Counted, Searched}
use Rattle.judge.proofs.PeelCounts.{unplaced_none, unplaced_some, unplaced_less}
use Rattle.judge.proofs.NewRows.{NewTold}

-- The places of a pattern's columns, and the end `e` of a window: a column of a place before it has no row past it.
pub record Window (m : ℕ) (S : List (List ℕ)) (row col : ℕ → ℕ) (e : ℕ) : Type 0 where
  pub small : m ≤ max_size
  pub columns : Columns m S
  pub cols_once : Once col m m
  pub within : e ≤ m
  pub low : (t x : ℕ) → t < e → Entry S x (col t) → place row m x < e

-- The list has the new place of each of the `n` rows taken, and the old place of each row past the window. No other row has one.
pub record RowsPlaced (m : ℕ) (row : ℕ → ℕ) (e : ℕ) (rows : List ℕ) (n : ℕ) (places : List ℕ) : Type 0 where
  pub long : length places ≡ max_size
  pub taken : (i : ℕ) → i < n → at places (at rows i) ≡ i
  pub later : (t : ℕ) → e ≤ t → t < m → at places (row t) ≡ t
  pub back : (x : ℕ) → x < m → at places x < max_size → Among (at rows) n x ⊎ (e ≤ place row m x)

-- The list has the new place of each of the `n` columns taken, and the old place of every other.
pub record Moved (m : ℕ) (col : ℕ → ℕ) (cols : List ℕ) (n : ℕ) (old : List ℕ) : Type 0 where
  pub long : length old ≡ max_size
  pub taken : (i : ℕ) → i < n → at old (at cols i) ≡ i
  pub others : (y : ℕ) → y < m → Outside (at cols) n y → at old y ≡ place col m y

-- The first `n` places have been taken, by rows and columns of old places before `e`: the places of their rows and columns have been
-- entered, the counts are of the other rows, and no column of the window before old place `t` is available.
pub record Peeling (m : ℕ) (S : List (List ℕ)) (row col : ℕ → ℕ) (new : List ℕ) (p e n : ℕ) (places old counts : List ℕ) (t : ℕ) : Type 0 where
  pub upto : n ≤ e
  pub within : t ≤ e
  pub rows : List ℕ
  pub cols : List ℕ
  pub grown : Grown (Entry S) m (place col m) n rows cols
  pub rows_low : (i : ℕ) → i < n → place row m (at rows i) < e
  pub cols_low : (i : ℕ) → i < n → place col m (at cols i) < e
  pub first : (i : ℕ) → i < p → Among (at cols) n (col i)
  pub placed : RowsPlaced m row e rows n places
  pub told : NewTold m new places
  pub moved : Moved m col cols n old
  pub left : Counted (λ u. column S (col u)) places p e counts
  pub past : Searched counts p t

-- One number more stands at place `n`, and the list has its place.
module _ {n x : ℕ} (l places : List ℕ) (e : length l ≡ n) (o : Outside (at l) n x) (h : x < length places) (taken : (i : ℕ) → i < n → at places (at l i) ≡ i) where
  taken_more : (i : ℕ) → i < n + 1 → at (set places x n) (at (l ++ (x ∷ [])) i) ≡ i
  taken_more i u = go (last_or n i (omega arith))
    where
      go : (i < n) ⊎ (i ≡ n) → at (set places x n) (at (l ++ (x ∷ [])) i) ≡ i
      go (inl b) = ap (at (set places x n)) (sym (snoc_old l x n e i b)) ∙ get_or-set_other places x (at l i) n 0 (o i b) ∙ taken i b
      go (inr z) = ap (λ (j : ℕ). at (set places x n) (at (l ++ (x ∷ [])) j)) z ∙ ap (at (set places x n)) (get_or_at l x [] 0 n e) ∙ get_or-set_same places x n 0 h ∙ sym z

-- What stands among the first places stands there then.
among_more : {n y : ℕ} (l : List ℕ) (x : ℕ) → length l ≡ n → Among (at l) n y → Among (at (l ++ (x ∷ []))) (n + 1) y
among_more {n} l x e a = (a.0, omega (arith, a.1), sym (snoc_old l x n e a.0 a.1) ∙ a.2)

-- A row gets its place.
rows_placed_more : {m n x e : ℕ} {row : ℕ → ℕ} {rows places : List ℕ} → m ≤ max_size → length rows ≡ n → Outside (at rows) n x → x < m → max_size ≤ at places x
    → RowsPlaced m row e rows n places → RowsPlaced m row e (rows ++ (x ∷ [])) (n + 1) (set places x n)
rows_placed_more {m} {n} {x} {e} {row} {rows} {places} small long o h w R =
    record {
      long = length-set places x n ∙ R.long;
      taken = taken_more rows places long o (omega (arith, R.long)) R.taken;
      later = λ t a b. get_or-set_other places x (row t) n 0 (λ z. omega (arith, R.later t a b, ap (at places) z)) ∙ R.later t a b;
      back = λ y b u. back y b u (ℕ_discrete y x);
    }
  where
    back : (y : ℕ) → y < m → at (set places x n) y < max_size → Dec (y ≡ x) → Among (at (rows ++ (x ∷ []))) (n + 1) y ⊎ (e ≤ place row m y)
    back y b u (yes z) = inl (n, omega arith, get_or_at rows x [] 0 n long ∙ sym z)
    back y b u (no z) = ⊎_elim (λ a. inl (among_more rows x long a)) inr (R.back y b (omega (arith, get_or-set_other places x y n 0 z)))

-- A column gets its new place.
moved_more : {m n y : ℕ} {col : ℕ → ℕ} {cols old : List ℕ} → length cols ≡ n → Outside (at cols) n y → y < max_size → Moved m col cols n old
    → Moved m col (cols ++ (y ∷ [])) (n + 1) (set old y n)
moved_more {m} {n} {y} {col} {cols} {old} e o h M =
    record {
      long = length-set old y n ∙ M.long;
      taken = taken_more cols old e o (omega (arith, M.long)) M.taken;
      others = λ x u f.
          let d : x ≢ y = λ z. f n (omega arith) (get_or_at cols y [] 0 n e ∙ sym z) in
          get_or-set_other old y x n 0 d ∙ M.others x u (λ i b z. f i (omega arith) (sym (snoc_old cols y n e i b) ∙ z));
    }

-- A row gets its place: the others that have none are told as before.
told_more : (m : ℕ) (new places : List ℕ) (x n : ℕ) → x < length places → n < max_size → NewTold m new places → NewTold m new (set places x n)
told_more m new places x n h b N y u w = go (ℕ_discrete y x)
  where
    go : Dec (y ≡ x) → (at (set places x n) y ≡ max_size + 1) ↔ T (has new y)
    go (yes z) = absurd (omega (arith, ap (at (set places x n)) z, get_or-set_same places x n 0 h))
    go (no z) =
        let e = get_or-set_other places x y n 0 z in
        let k = N y u (omega (arith, e)) in
        (λ q. k.0 (sym e ∙ q), λ t. e ∙ k.1 t)

module _ {m : ℕ} {S : List (List ℕ)} {row col : ℕ → ℕ} {new : List ℕ} {p e : ℕ} (W : Window m S row col e)
    {n t : ℕ} {places old counts : List ℕ} (P : Peeling m S row col new p e n places old counts t) where
  -- A row of a place before `e` has no place in the list exactly when it is not among those that were taken.
  no_place : (x : ℕ) → x < m → place row m x < e → Outside (at P.rows) n x → max_size ≤ at places x
  no_place x h l o = go (dec_lt (at places x) max_size)
    where
      go : Dec (at places x < max_size) → max_size ≤ at places x
      go (yes k) = absurd (⊎_elim (λ a. o a.0 a.1 a.2) (λ u. omega arith) (P.placed.back x h k))
      go (no k) = omega arith

  not_taken : (x : ℕ) → max_size ≤ at places x → Outside (at P.rows) n x
  not_taken x u i h z = omega (arith, P.placed.taken i h, ap (at places) z, P.upto, W.within, W.small)

  -- A column that has such a row has not been taken; so the list has its old place, which is not before the window.
  column_left : (y x : ℕ) → T (has (column S y) x) → max_size ≤ at places x → Outside (at P.cols) n y
  column_left y x t w i u z = let a = P.grown.peel.passed i u x (rw z t) in not_taken x w a.0 (omega (arith, a.1)) a.2

  pub not_before : (y : ℕ) → y < m → Outside (at P.cols) n y → p ≤ place col m y
  not_before y h o = go (dec_lt (place col m y) p)
    where
      go : Dec (place col m y < p) → p ≤ place col m y
      go (yes u) = let a = P.first (place col m y) u in absurd (o a.0 a.1 (a.2 ∙ (place_of W.cols_once y h).1))
      go (no u) = omega arith

  pub old_stands : (x : ℕ) → max_size ≤ at places x → (y : ℕ) → y < m → T (has (column S y) x) → (at old y ≡ place col m y) × (p ≤ place col m y)
  old_stands x w y h t = let o = column_left y x t w in (P.moved.others y h o, not_before y h o)

  -- An available column of the window has a count of one.
  pub available_one : (y x : ℕ) → place col m y < e → Available (Entry S) m n (at P.rows) (at P.cols) y x → at counts (place col m y) ≡ 1
  available_one y x l a =
      let q = place_of W.cols_once y a.col_below in
      P.left.stand (place col m y) (not_before y a.col_below a.col_left) l
      ∙ ap (λ (z : ℕ). unplaced places (column S z)) q.1
      ∙ unplaced_less places x 0 in_list (no_place x a.row_below (W.low (place col m y) x l (rw q.1 a.present)) a.row_left) (omega arith) (column S y) (W.columns.rise y a.col_below) a.present
      ∙ ap (λ (z : ℕ). z + 1) (unplaced_none (set places x 0) (column S y) (λ k u. placed k u (ℕ_discrete (at (column S y) k) x) (dec_lt (at places (at (column S y) k)) max_size)))
    where
      in_list : x < length places
      in_list = omega (arith, a.row_below, P.placed.long, W.small)

      placed : (k : ℕ) → k < length (column S y) → Dec (at (column S y) k ≡ x) → Dec (at places (at (column S y) k) < max_size) → at (set places x 0) (at (column S y) k) < max_size
      placed k u (yes e) d = omega (arith, ap (at (set places x 0)) e, get_or-set_same places x 0 0 in_list)
      placed k u (no e) (yes d) = omega (arith, get_or-set_other places x (at (column S y) k) 0 0 e)
      placed k u (no e) (no d) = absurd (e (a.only (at (column S y) k) (among_has (column S y) k u) (not_taken _ (omega arith))))

  -- The place `s` of the window has a count of one.
  module _ (s : ℕ) (f : p ≤ s) (b : s < e) (one : at counts s ≡ 1) where
    in_size : s < m
    in_size = omega (arith, W.within)

    pub peeling_some : SomeLeft places (column S (col s))
    peeling_some =
        record {
          below = λ k u. omega (arith, (W.columns.rise (col s) (W.cols_once.below s in_size)).below k u, W.small);
          some = omega (arith, P.left.stand s f b);
        }

    -- Its column is available with its one row `x` that has no place, and has the least place where the search has come to it.
    module _ (x : ℕ) (there : T (has (column S (col s)) x)) (w : max_size ≤ at places x) where
      row_in : x < m
      row_in = row_below W.columns x (col s) there

      one_available : Available (Entry S) m n (at P.rows) (at P.cols) (col s) x
      one_available =
          record {
            col_below = W.cols_once.below s in_size;
            col_left = column_left (col s) x there w;
            row_below = row_in;
            row_left = not_taken x w;
            present = there;
            only = λ r u o. alone r u (no_place r (row_below W.columns r (col s) u) (W.low s r b u) o) (ℕ_discrete r x);
          }
        where
          alone : (r : ℕ) → T (has (column S (col s)) r) → max_size ≤ at places r → Dec (r ≡ x) → r ≡ x
          alone r u z (yes d) = d
          alone r u z (no d) =
              absurd
              (omega (
                arith,
                P.left.stand s f b,
                unplaced_less places x 0 (omega (arith, row_in, P.placed.long, W.small)) w (omega arith) (column S (col s)) (W.columns.rise (col s) (W.cols_once.below s in_size)) there,
                unplaced_some (set places x 0) (column S (col s)) r u (omega (arith, get_or-set_other places x r 0 0 d)),
              ))

      lowest : Searched counts p s → (z r : ℕ) → Available (Entry S) m n (at P.rows) (at P.cols) z r → place col m (col s) ≤ place col m z
      lowest none z r a = go (dec_lt (place col m z) s)
        where
          go : Dec (place col m z < s) → place col m (col s) ≤ place col m z
          go (yes u) = absurd (none.none (place col m z) (not_before z a.col_below a.col_left) u (available_one z r (omega arith) a))
          go (no u) = omega (arith, place_at W.cols_once s in_size)

      -- It is taken.
      pub peeling_more : n < e → Searched counts p s → {counts' : List ℕ} {t' : ℕ} (y : ℕ) → y ≡ col s → Counted (λ u. column S (col u)) (set places x n) p e counts'
          → Searched counts' p t' → t' ≤ e → Peeling m S row col new p e (n + 1) (set places x n) (set old y n) counts' t'
      peeling_more h none y ey L past within =
          record {
            upto = omega arith;
            within = within;
            rows = P.rows ++ (x ∷ []);
            cols = P.cols ++ (y ∷ []);
            grown = rw (ey, add-one) (grown_more P.grown one_available (lowest none));
            rows_low = λ i u. snoc_each (λ r. place row m r < e) P.rows x n P.grown.rows P.rows_low (W.low s x b there) i (omega arith);
            cols_low = λ i u. snoc_each (λ z. place col m z < e) P.cols y n P.grown.cols P.cols_low (omega (arith, ap (place col m) ey, place_at W.cols_once s in_size)) i (omega arith);
            first = λ i u. among_more P.cols y P.grown.cols (P.first i u);
            placed = rows_placed_more W.small P.grown.rows (not_taken x w) row_in w P.placed;
            told = told_more m new places x n (omega (arith, row_in, P.placed.long, W.small)) (omega (arith, W.within, W.small)) P.told;
            moved = moved_more P.grown.cols (rw ey (column_left (col s) x there w)) (omega (arith, W.cols_once.below s in_size, ey, W.small)) P.moved;
            left = L;
            past = past;
          }
