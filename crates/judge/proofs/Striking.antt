-- A row of a window gets its place: the counts of its columns are lowered, and are right again. Rests on PeelCounts.antt,
-- Windows.antt, SpikedParts.antt, `pattern` and `listing`.
use mathlib.Core.Bool.{true, false}
use mathlib.Core.List.{List}
use mathlib.Core.Logic.{◌≢◌}
use mathlib.Core.Path.{◌≡◌, sym, ap, ◌∙◌, subst}
use Prim.Native.Nat.{ℕ, ◌+◌, ◌-◌, ◌≤◌, ◌<◌}
use native.Mathlib.Decide.{ℕ_discrete}
use native.Mathlib.Omega.{arith}
use lib.Dec.{T}
use lib.ListN.{length, set, length-set}
use lib.Seq.{get_or-set_same, get_or-set_other}
use Rattle.pattern.specs.Pattern.{has, column}
use Rattle.pattern.specs.Places.{at, place}
use Rattle.pattern.specs.Rising.{Rising}
use Rattle.pattern.proofs.Clearing.{old_column}
use Rattle.pattern.proofs.Finding.{place_at, place_of, place_once}
use Rattle.pattern.proofs.Tests.{T_dec, has_among, among_has}
use Rattle.listing.specs.Limits.{max_size}
use Rattle.listing.specs.Listing.{part, parts}
use Rattle.listing.proofs.Listings.{good_column}
use Rattle.listing.proofs.Rises.{rising_once}
use Rattle.judge.specs.Peel.{spiked, unplaced, Counted, HitsFrom, Strikes, Struck}
use Rattle.judge.proofs.PeelCounts.{unplaced_some, unplaced_less, unplaced_same}
use Rattle.judge.proofs.SpikedParts.{spiked_new}
use Rattle.judge.proofs.Windows.{Given, Ends, given_columns, p_in}

-- Row `x` has no place, `cols` lists its columns, and `old` has the old place of each, which is not before the window.
pub record RowLeft (m : ℕ) (S : List (List ℕ)) (rs rc oc : List ℕ) (p e : ℕ) (places counts old cols : List ℕ) (x : ℕ) : Type 0 where
  pub long : length places ≡ max_size
  pub counted : Counted (λ u. column S (at oc u)) places p e counts
  pub inside : x < m
  pub nowhere : max_size ≤ at places x
  pub is : cols ≡ part rs rc x
  pub stands : (y : ℕ) → y < m → T (has (column S y) x) → (at old y ≡ place (at oc) m y) × (p ≤ place (at oc) m y)

module _ {m : ℕ} {cs cr rs rc : List ℕ} (or oc : List ℕ) {c : ℕ} {new : List ℕ} {p e : ℕ} (A : Given m cs cr rs rc or oc c new p) (D : Ends m (at or) new p e)
    {places counts old cols : List ℕ} {x : ℕ} (R : RowLeft m (spiked m cs cr c new) rs rc oc p e places counts old cols x) where
  abbrev S : List (List ℕ)
  S = spiked m cs cr c new

  abbrev key : ℕ → ℕ
  key = place (at oc) m

  key_once : (y z : ℕ) → y < m → z < m → key y ≡ key z → y ≡ z
  key_once = (place_once A.order.cols).once

  cols_rise : Rising m cols
  cols_rise = rw R.is (A.rows.formed.rise x R.inside)

  -- A column but `c` stands in the list exactly when it has row `x`.
  in_column : (y : ℕ) → y ≢ c → T (has cols y) → T (has (column S y) x)
  in_column y n t =
      rw (old_column (parts m cs cr) c new y n) ((A.same x y).1 (subst (λ (l : List ℕ). T (has l y)) (good_column A.rows x R.inside R.is) t))

  in_row : (y : ℕ) → y ≢ c → T (has (column S y) x) → T (has cols y)
  in_row y n t =
      subst (λ (l : List ℕ). T (has l y)) (sym (good_column A.rows x R.inside R.is))
      ((A.same x y).0 (subst (λ (l : List ℕ). T (has l x)) (old_column (parts m cs cr) c new y n) t))

  count_some : (y : ℕ) → y < m → T (has (column S y) x) → key y < e → 0 < at counts (key y)
  count_some y b t u =
      omega (
        arith,
        R.counted.stand (key y) (R.stands y b t).1 u,
        ap (λ (z : ℕ). unplaced places (column S z)) (place_of A.order.cols y b).1,
        unplaced_some places (column S y) x t R.nowhere,
      )

  -- The list's columns but `c`, and where their counts stand.
  module _ (i : ℕ) (u : i < length cols) (n : at cols i ≢ c) where
    col_in : at cols i < m
    col_in = cols_rise.below i u

    col_has : T (has (column S (at cols i)) x)
    col_has = in_column (at cols i) n (among_has cols i u)

    old_is : at old (at cols i) ≡ key (at cols i)
    old_is = (R.stands (at cols i) col_in col_has).0

  pub strikes : Strikes cols c e old counts
  strikes =
      record {
        long = R.counted.long;
        small = omega (arith, D.within, A.columns.small);
        below = λ i u. omega (arith, cols_rise.below i u, A.columns.small);
        apart = λ i j u v n k z.
            (rising_once cols_rise).once i j u v
            (key_once (at cols i) (at cols j) (col_in i u n.0) (col_in j v k.0) (sym (old_is i u n.0) ∙ z ∙ old_is j v k.0));
        some = λ i u n.
            let q = old_is i u n.0 in
            omega (arith, ap (at counts) q, count_some (at cols i) (col_in i u n.0) (col_has i u n.0) (omega (arith, q, n.1)));
      }

  pub hits_from : HitsFrom p cols c e old
  hits_from i u n = omega (arith, old_is i u n.0, (R.stands (at cols i) (col_in i u n.0) (col_has i u n.0)).1)

  -- It gets the place `n`, and its columns but `c` have been struck.
  module _ {n : ℕ} {counts' : List ℕ} (b : n < max_size) (K : Struck cols c e old counts (length cols) counts') where
    row_there : x < length places
    row_there = omega (arith, R.long, R.inside, A.columns.small)

    c_same : at counts' p ≡ at counts p
    c_same = K.others p (λ i u d z. d.0 (key_once (at cols i) c (col_in i u d.0) A.inside (sym (old_is i u d.0) ∙ z ∙ A.c_place)))

    column_less : (y : ℕ) → y < m → T (has (column S y) x) → unplaced places (column S y) ≡ unplaced (set places x n) (column S y) + 1
    column_less y u = unplaced_less places x n row_there R.nowhere b (column S y) ((given_columns or oc A).rise y u)

    column_same : (y : ℕ) → ¬ T (has (column S y) x) → unplaced places (column S y) ≡ unplaced (set places x n) (column S y)
    column_same y = unplaced_same places x n row_there R.nowhere b (column S y)

    -- The count of a place of the window is right again, where its column is not `c`.
    struck_count : (t : ℕ) → p ≤ t → t < e → at oc t ≢ c → at counts' t ≡ unplaced (set places x n) (column S (at oc t))
    struck_count t a u d = go (T_dec (has (column S (at oc t)) x))
      where
        in_size : t < m
        in_size = omega (arith, D.within)

        go : Dec (T (has (column S (at oc t)) x)) → at counts' t ≡ unplaced (set places x n) (column S (at oc t))
        go (yes f) =
            let k = has_among cols (at oc t) (in_row (at oc t) d f) in
            let q : at old (at cols k.0) ≡ t = ap (at old) k.2 ∙ (R.stands (at oc t) (A.order.cols.below t in_size) f).0 ∙ place_at A.order.cols t in_size in
            omega (
              arith,
              R.counted.stand t a u,
              column_less (at oc t) (A.order.cols.below t in_size) f,
              K.less k.0 k.1 (λ z. d (sym k.2 ∙ z), omega arith),
              ap (at counts) q,
              ap (at counts') q,
            )
        go (no f) =
            K.others t
            (λ i k z q.
            let y : at cols i ≡ at oc t = sym (place_of A.order.cols (at cols i) (col_in i k z.0)).1 ∙ ap (at oc) (sym (old_is i k z.0) ∙ q) in
            f (subst (λ (y : ℕ). T (has (column S y) x)) y (col_has i k z.0)))
            ∙ R.counted.stand t a u
            ∙ column_same (at oc t) f

    -- A place whose column is `c` is `p`.
    c_at : (t : ℕ) → t < e → at oc t ≡ c → t ≡ p
    c_at t u d = sym (place_at A.order.cols t (omega (arith, D.within))) ∙ ap key d ∙ sym A.c_place

    -- The new column has not row `x`.
    pub left_struck : has new x ≡ false → Counted (λ u. column S (at oc u)) (set places x n) p e counts'
    left_struck f = record { long = K.long; stand = λ t a u. go t a u (ℕ_discrete (at oc t) c) }
      where
        go : (t : ℕ) → p ≤ t → t < e → Dec (at oc t ≡ c) → at counts' t ≡ unplaced (set places x n) (column S (at oc t))
        go t a u (no d) = struck_count t a u d
        go t a u (yes d) =
            let q = c_at t u d in
            let z : column S (at oc t) ≡ new = ap (column S) d ∙ spiked_new A.columns A.inside A.rise in
            ap (at counts') q
            ∙ c_same
            ∙ ap (at counts) (sym q)
            ∙ R.counted.stand t a u
            ∙ column_same (at oc t) (λ k. subst T (ap (λ (l : List ℕ). has l x) z ∙ f) k)

    -- It has: its count is lowered too.
    module _ (f : has new x ≡ true) where
      c_has : T (has (column S c) x)
      c_has = subst T (sym (ap (λ (l : List ℕ). has l x) (spiked_new A.columns A.inside A.rise) ∙ f)) tt

      pub c_some : 0 < at counts' p
      c_some = omega (arith, c_same, ap (at counts) A.c_place, count_some c A.inside c_has (omega (arith, A.c_place, D.after)))

      pub left_lowered : (v : ℕ) → v ≡ at counts' p - 1 → Counted (λ u. column S (at oc u)) (set places x n) p e (set counts' p v)
      left_lowered v ev = record { long = length-set counts' p v ∙ K.long; stand = λ t a u. go t a u (ℕ_discrete (at oc t) c) }
        where
          go : (t : ℕ) → p ≤ t → t < e → Dec (at oc t ≡ c) → at (set counts' p v) t ≡ unplaced (set places x n) (column S (at oc t))
          go t a u (no d) = get_or-set_other counts' p t v 0 (λ z. d (ap (at oc) z ∙ (p_in or oc A).1)) ∙ struck_count t a u d
          go t a u (yes d) =
              let q = c_at t u d in
              let r : p < length counts' = omega (arith, K.long, A.columns.small, (p_in or oc A).0) in
              omega (
                arith,
                ap (at (set counts' p v)) q,
                get_or-set_same counts' p v 0 r,
                c_same,
                ap (at counts) q,
                R.counted.stand t a u,
                ap (λ (y : ℕ). unplaced places (column S y)) d,
                ap (λ (y : ℕ). unplaced (set places x n) (column S y)) d,
                column_less c A.inside c_has,
              )
