-- Places of an order's rows, entered one by one, and what the columns' greatest places say of the order.
-- Rests on specs/Order.antt and `pattern`.
use Rattle.std.specs.List.{fold}
use mathlib.Core.List.{List, [], ◌∷◌}
use mathlib.Core.Logic.{⊎_elim}
use mathlib.Core.Path.{◌≡◌, sym, ap, ◌∙◌}
use Prim.Native.Nat.{ℕ, ◌+◌, ◌≤◌, ◌<◌, max}
use native.Mathlib.Decide.{ℕ_discrete}
use native.Mathlib.Numerals.{add-one}
use native.Mathlib.Omega.{arith}
use lib.ListN.{length, take, set, length-set}
use lib.Seq.{get_or-set_same, get_or-set_other, take-suc}
use Rattle.pattern.specs.Order.{Sound}
use Rattle.pattern.specs.Pattern.{column, Entry}
use Rattle.pattern.specs.Places.{at, Among, Outside, Once, place}
use Rattle.pattern.specs.Rising.{Rising}
use Rattle.pattern.specs.Series.{greatest}
use Rattle.pattern.specs.Verdict.{top_place}
use Rattle.pattern.proofs.Finding.{place_at, place_of}
use Rattle.pattern.proofs.Greatest.{greatest_high, greatest_some, greatest_more, greatest_same}
use Rattle.pattern.proofs.Once.{once_none, once_more}
use Rattle.pattern.proofs.Rises.{rising_below}
use Rattle.pattern.proofs.Search.{last_or}
use Rattle.pattern.proofs.Tests.{has_among}
use Rattle.pattern.proofs.Turning.{Columns, row_below}
use Rattle.listing.specs.Limits.{max_size}
use Rattle.register.specs.Order.{Placed, Topped}

-- ---- Entering the places

-- The places of the first `t` numbers have been entered; what stands for any other number is `max_size` or more, and no place.
pub record Entered (m : ℕ) (f : ℕ → ℕ) (t : ℕ) (places : List ℕ) : Type 0 where
  pub long : length places ≡ max_size
  pub once : Once f t m
  pub there : (s : ℕ) → s < t → at places (f s) ≡ s
  pub back : (x : ℕ) → x < max_size → at places x < max_size → Among f t x

module _ {m : ℕ} (f : ℕ → ℕ) where
  pub entered_none : {places : List ℕ} → length places ≡ max_size → ((x : ℕ) → x < max_size → max_size ≤ at places x) → Entered m f 0 places
  entered_none long none = record { long = long; once = once_none; there = λ s h. absurd (omega arith); back = λ x h n. absurd (omega (arith, none x h)) }

  module _ {t : ℕ} {places : List ℕ} (small : m ≤ max_size) (ht : t < m) (E : Entered m f t places) (x : ℕ) (ex : x ≡ f t) (h : x < m) where
    -- The next number has a place already.
    pub entered_twice : at places x < max_size → ¬ Once f m m
    entered_twice n o = let a = E.back x (omega arith) n in omega (arith, a.1, o.once a.0 t (omega (arith, a.1)) ht (a.2 ∙ ex))

    -- It has none.
    pub entered_more : max_size ≤ at places x → Entered m f (t + 1) (set places x t)
    entered_more e =
        record {
          long = length-set places x t ∙ E.long;
          once = rw add-one (once_more E.once (omega arith) (λ s u z. outside s u (z ∙ sym ex)));
          there = λ s b. ⊎_elim
              (λ u. get_or-set_other places x (f s) t 0 (outside s u) ∙ E.there s u)
              (λ z. ap (at (set places x t)) (ap f z ∙ sym ex) ∙ get_or-set_same places x t 0 (omega (arith, E.long)) ∙ sym z)
              (last_or t s (omega arith));
          back = λ y b n. back y b n (ℕ_discrete y x);
        }
      where
        outside : Outside f t x
        outside s u z = omega (arith, E.there s u, ap (at places) z)

        back : (y : ℕ) → y < max_size → at (set places x t) y < max_size → Dec (y ≡ x) → Among f (t + 1) y
        back y b n (yes z) = (t, omega arith, sym (z ∙ ex))
        back y b n (no z) = let a = E.back y b (omega (arith, get_or-set_other places x y t 0 z)) in (a.0, omega (arith, a.1), a.2)

  -- The list has the number of each place.
  pub there_placed : {places : List ℕ} → length places ≡ max_size → Once f m m → ((t : ℕ) → t < m → at places (f t) ≡ t) → Placed m f places
  there_placed {places} long o there =
      record { long = long; once = o; stand = λ x h. let p = place_of o x h in ap (at places) (sym p.1) ∙ there (place f m x) p.0 }

  pub entered_all : {places : List ℕ} → Entered m f m places → Placed m f places
  entered_all E = there_placed E.long E.once E.there

-- A place is one.
pub placed_below : {m : ℕ} {f : ℕ → ℕ} {places : List ℕ} → Placed m f places → (x : ℕ) → x < m → at places x < m
placed_below L x h = omega (arith, L.stand x h, (place_of L.once x h).0)

-- ---- Greatest places

module _ {m : ℕ} {P : List (List ℕ)} {row : ℕ → ℕ} {places : List ℕ} (C : Columns m P) (L : Placed m row places) where
  -- A row of a column is the row of its place.
  row_at : (x c : ℕ) → Entry P x c → (at places x < m) × (row (at places x) ≡ x)
  row_at x c e =
      let h = row_below C x c e in
      let p = place_of L.once x h in
      (omega (arith, L.stand x h, p.0), ap row (L.stand x h) ∙ p.1)

  at_row : (t : ℕ) → t < m → at places (row t) ≡ t
  at_row t h = L.stand (row t) (L.once.below t h) ∙ place_at L.once t h

  pub topped_sound : (col : ℕ → ℕ) → ((t : ℕ) → t < m → Topped m places P (col t) t) → Sound (Entry P) m row col
  topped_sound col top =
      record {
        rows = L.once;
        cols = record {
          below = λ t h. (top t h).below;
          once = λ s t hs ht e. sym (top s hs).top ∙ ap (λ (c : ℕ). greatest (at places) (column P c)) e ∙ (top t ht).top;
        };
        paired = λ t h.
            let g = greatest_some (at places) (column P (col t)) (top t h).some in
            let z : row t ≡ g.0 = ap row (sym (g.2 ∙ (top t h).top)) ∙ (row_at g.0 (col t) g.1).1 in
            rw z g.1;
        upper = λ s t hs ht e. omega (arith, greatest_high (at places) (column P (col t)) (row s) e, at_row s hs, (top t ht).top);
      }

  pub sound_topped : (col : ℕ → ℕ) → Sound (Entry P) m row col → (t : ℕ) → t < m → Topped m places P (col t) t
  sound_topped col S t h =
      record {
        below = S.cols.below t h;
        some = some;
        top = omega (arith, low, high);
      }
    where
      some : 0 < length (column P (col t))
      some = let a = has_among (column P (col t)) (row t) (S.paired t h) in omega (arith, a.1)

      high : t ≤ greatest (at places) (column P (col t))
      high = omega (arith, greatest_high (at places) (column P (col t)) (row t) (S.paired t h), at_row t h)

      low : greatest (at places) (column P (col t)) ≤ t
      low =
          let g = greatest_some (at places) (column P (col t)) some in
          let r = row_at g.0 (col t) g.1 in
          omega (arith, g.2, S.upper (at places g.0) t r.0 h (rw r.1 g.1))

-- The greatest so far, and one row more.
pub greatest_on : (f : ℕ → ℕ) (l : List ℕ) (k : ℕ) → k < length l → greatest f (take (k + 1) l) ≡ max (greatest f (take k l)) (f (at l k))
greatest_on f l k h = ap (λ (n : ℕ). greatest f (take n l)) (add-one k) ∙ ap (greatest f) (take-suc l k 0 h) ∙ greatest_more f (take k l) (at l k)

-- Of rows in range, the greatest place in the list is that of the order.
pub top_is : {m : ℕ} {row : ℕ → ℕ} {places l : List ℕ} → Placed m row places → Rising m l → greatest (at places) l ≡ top_place row m l
top_is {m} {row} {places} {l} L R = greatest_same (at places) (place row m) l (λ x u. L.stand x (rising_below R x u))

-- Taken one by one, each with the greatest so far.
pub fold_greatest : (f : ℕ → ℕ) (l : List ℕ) (a : ℕ) → fold (λ b x. max b (f x)) a l ≡ max a (greatest f l)
unfolding greatest
fold_greatest f [] a = omega arith
fold_greatest f (x ∷ l) a = fold_greatest f l (max a (f x)) ∙ omega arith
