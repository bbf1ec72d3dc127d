-- A column exchanged in the row listing: column c is struck out of every row and row r emptied, and then the new rows are given
-- column c. What comes of it is the exchanged column listing, turned. Rests on Exchanges.antt, Spreads.antt and `pattern`.
use mathlib.Core.Bool.{cond}
use mathlib.Core.List.{List, []}
use mathlib.Core.Logic.{◌≢◌, ◌⊎◌, inl, inr, ⊎_elim}
use mathlib.Core.Path.{◌≡◌, refl, sym, ap, ◌∙◌, subst}
use Prim.Native.Nat.{ℕ, ◌+◌, ◌≤◌, ◌<◌}
use native.Mathlib.Decide.{ℕ_discrete}
use native.Mathlib.Omega.{arith}
use lib.Dec.{T, eqb}
use lib.ListN.{length}
use Rattle.pattern.specs.Flat.{start_of}
use Rattle.pattern.specs.Pattern.{has, column, Entry}
use Rattle.pattern.specs.Places.{at}
use Rattle.pattern.specs.Rising.{Rising}
use Rattle.pattern.specs.Turned.{turned, SameEntries}
use Rattle.pattern.proofs.Each.{length_each, each_at}
use Rattle.pattern.proofs.Tallies.{turned_total}
use Rattle.pattern.proofs.Tests.{choose_same, choose_other}
use Rattle.pattern.proofs.Turning.{Columns, column_below, turned_only}
use Rattle.listing.specs.Held.{Held}
use Rattle.listing.specs.Limits.{max_total}
use Rattle.listing.specs.Listing.{parts, Good}
use Rattle.listing.proofs.Listings.{good_columns}
use Rattle.listing.proofs.Readback.{held_start, held_entries_long, held_parts, held_good}
use Rattle.store.specs.Store.{without, emptied, exchanged, spread}
use Rattle.store.proofs.Exchanges.{emptied_columns, exchanged_columns, held_on}
use Rattle.store.proofs.Spreads.{spread_columns, spread_has, has_spread, spread_total}
use Rattle.store.proofs.Without.{without_has, has_without}

-- ---- The entries of a listing with column `c` exchanged, and without row `r`

module _ (m : ℕ) (P : List (List ℕ)) (c r : ℕ) (new : List ℕ) where
  abbrev gets : ℕ → List ℕ
  gets k = cond (eqb k c) new (without r (column P k))

  abbrev Gets : ℕ → ℕ → Type 0
  Gets y k = ((k ≡ c) × T (has new y)) ⊎ ((k ≢ c) × (y ≢ r) × Entry P y k)

  exchanged_has : (y k : ℕ) → Entry (exchanged m P c r new) y k → Gets y k
  exchanged_has y k t = go (ℕ_discrete k c)
    where
      there : T (has (gets k) y)
      there = subst (λ (l : List ℕ). T (has l y)) (each_at gets m k [] (omega (arith, column_below (exchanged m P c r new) y k t, length_each gets m))) t

      go : Dec (k ≡ c) → Gets y k
      go (yes e) = inl (e, subst (λ (l : List ℕ). T (has l y)) (choose_same k c new (without r (column P k)) e) there)
      go (no n) =
          let u = without_has r (column P k) y (subst (λ (l : List ℕ). T (has l y)) (choose_other k c new (without r (column P k)) n) there) in
          inr (n, u.1, u.0)

  has_exchanged : (y k : ℕ) → k < m → Gets y k → Entry (exchanged m P c r new) y k
  has_exchanged y k h d = subst (λ (l : List ℕ). T (has l y)) (sym (each_at gets m k [] h)) (go d)
    where
      go : Gets y k → T (has (gets k) y)
      go (inl p) = subst (λ (l : List ℕ). T (has l y)) (sym (choose_same k c new (without r (column P k)) p.0)) p.1
      go (inr p) = subst (λ (l : List ℕ). T (has l y)) (sym (choose_other k c new (without r (column P k)) p.0)) (has_without r (column P k) y p.2 p.1)

-- A row that has been struck out stands nowhere.
emptied_none : (m : ℕ) (P : List (List ℕ)) (c r k : ℕ) → ¬ Entry (emptied m P c r) r k
emptied_none m P c r k t = ⊎_elim (λ p. p.1) (λ p. p.1 refl) (exchanged_has m P c r [] r k t)

-- ---- `R` lists by rows what `P` lists by columns

module _ {m c : ℕ} {P R : List (List ℕ)} {new : List ℕ} (C : Columns m P) (D : Columns m R) (same : SameEntries P R) (in_size : c < m) (rise : Rising m new) (r : ℕ) where
  abbrev E : List (List ℕ)
  E = exchanged m P c r new

  abbrev S : List (List ℕ)
  S = emptied m R r c

  still_same : SameEntries E (spread m c new S)
  still_same y k = (
    λ t. has_spread (emptied_columns r c D) c in_size new rise k y (⊎_elim
        (λ p. inr p)
        (λ p. let u = (same y k).0 p.2 in inl (has_exchanged m R r c [] k y (omega (arith, column_below R k y u, D.size)) (inr (p.1, p.0, u))))
        (exchanged_has m P c r new y k t)),
    λ t. ⊎_elim
        (λ u. ⊎_elim
        (λ p. absurd p.1)
        (λ p. let v = (same y k).1 p.2 in has_exchanged m P c r new y k (omega (arith, column_below P y k v, C.size)) (inr (p.1, p.0, v)))
        (exchanged_has m R r c [] k y u))
        (λ p. has_exchanged m P c r new y k (omega (arith, p.0)) (inl p))
        (spread_has (emptied_columns r c D) c in_size new rise k y t),
  )

  rows_turned : spread m c new S ≡ turned m E
  rows_turned = turned_only (exchanged_columns c r C rise) (spread_columns (emptied_columns r c D) c in_size new rise) still_same

  rows_total : start_of S m + length new ≡ start_of E m
  rows_total =
      sym (spread_total (emptied_columns r c D) c in_size (emptied_none m R r c) new rise)
      ∙ ap (λ (Q : List (List ℕ)). start_of Q m) rows_turned
      ∙ turned_total (exchanged_columns c r C rise)

-- ---- In lists

-- Row `r` of a good row listing has been emptied and column `c` struck out of the others, and there is room for column `c` in the
-- new rows.
pub record Struck (m c r : ℕ) (new col_starts col_rows starts entries starts' entries' : List ℕ) : Type 0 where
  pub columns : Good m col_starts col_rows
  pub good : Good m starts entries
  pub same : SameEntries (parts m col_starts col_rows) (parts m starts entries)
  pub in_size : c < m
  pub rise : Rising m new
  pub total : start_of (exchanged m (parts m col_starts col_rows) c r new) m ≤ max_total
  pub fits : start_of (exchanged m (parts m col_starts col_rows) c r new) m ≤ length entries
  pub held : Held (emptied m (parts m starts entries) r c) starts entries starts' entries'

module _ {m c r : ℕ} {new col_starts col_rows starts entries starts' entries' : List ℕ} (X : Struck m c r new col_starts col_rows starts entries starts' entries') where
  abbrev P : List (List ℕ)
  P = parts m col_starts col_rows

  abbrev left : List (List ℕ)
  left = emptied m (parts m starts entries) r c

  D : Columns m left
  D = emptied_columns r c (good_columns X.good)

  many : start_of left m + length new ≡ start_of (exchanged m P c r new) m
  many = rows_total (good_columns X.columns) (good_columns X.good) X.same X.in_size X.rise r

  left_fits : start_of left m ≤ length entries
  left_fits = omega (arith, many, X.fits)

  is : parts m starts' entries' ≡ left
  is = held_parts D.size X.good.room.starts_long left_fits X.held

  pub struck_good : Good m starts' entries'
  struck_good = held_good D.size X.good.room.starts_long left_fits X.held D (omega (arith, many, X.total)) X.good.small

  pub struck_none : (k : ℕ) → ¬ Entry (parts m starts' entries') c k
  struck_none k t = emptied_none m (parts m starts entries) r c k (rw is at t)

  last : at starts' m ≡ start_of left m
  last = held_start D.size X.good.room.starts_long left_fits X.held m (omega arith)

  pub struck_total : at starts' m + length new ≤ max_total
  struck_total = omega (arith, last, many, X.total)

  pub struck_fits : at starts' m + length new ≤ length entries'
  struck_fits = omega (arith, last, many, X.fits, held_entries_long D.size X.good.room.starts_long left_fits X.held)

  pub rows_held : {starts'' entries'' : List ℕ} → Held (spread m c new (parts m starts' entries')) starts' entries' starts'' entries''
      → Held (turned m (exchanged m P c r new)) starts entries starts'' entries''
  rows_held {starts''} {entries''} K =
      let e = rows_turned (good_columns X.columns) (good_columns X.good) X.same X.in_size X.rise r in
      subst (λ (Q : List (List ℕ)). Held Q starts entries starts'' entries'') e
      (held_on D.size (spread_columns D c X.in_size new X.rise).size
      (omega (arith, spread_total D c X.in_size (emptied_none m (parts m starts entries) r c) new X.rise))
      X.held (rw is at K))
