-- What lent lists say, and what they say once they hold a record: the record itself. Rests on SheetWritten.antt, Sizes.antt,
-- `listing` and `register`.
use mathlib.Core.List.{List, [], ◌∷◌, map}
use mathlib.Core.Path.{◌≡◌, refl, sym, ap, ap₂, ◌∙◌}
use Prim.Native.Nat.{ℕ, suc, ◌≤◌, ◌<◌}
use native.Mathlib.Omega.{arith}
use lib.ListN.{length, get_or, get_or-map}
use lib.Seq.{ext_get_or}
use Rattle.pattern.specs.Flat.{start_of}
use Rattle.pattern.specs.Places.{at}
use Rattle.pattern.specs.Turned.{turned}
use Rattle.pattern.specs.Order.{pairs}
use Rattle.pattern.proofs.Pairing.{sound_same}
use Rattle.pattern.proofs.Tallies.{flat_length}
use Rattle.pattern.proofs.Pairs.{pairs_length, pair_is}
use Rattle.listing.specs.Held.{over}
use Rattle.listing.specs.Limits.{max_total}
use Rattle.listing.proofs.Holding.{over_new}
use Rattle.listing.proofs.Listings.{good_columns}
use Rattle.register.specs.Takes.{Takes}
use Rattle.register.specs.Lent.{Lists, rows, SoundLists}
use Rattle.register.proofs.Holdings.{columns_back, rows_back, holding_sound}
use Rattle.register.proofs.Soundness.{columns_good}
use Rattle.sheet.specs.Sheet.{Record, firsts, seconds, record_of, total, SoundRecord, held_record}
use Rattle.sheet.proofs.SheetWritten.{Well}
use Rattle.sheet.proofs.Sizes.{entries_few}

abbrev record_with : ℕ → List (List ℕ) → List (ℕ × ℕ) → Record
record_with m P o = record { size = m; columns = P; order = o }

-- ---- Pairs

pub parts_long : (f : ℕ × ℕ → ℕ) (o : List (ℕ × ℕ)) → length (map f o) ≡ length o
parts_long f [] = refl
parts_long f (p ∷ o) = ap suc (parts_long f o)

-- Written over the head of a list.
over_part : (f : ℕ × ℕ → ℕ) (o : List (ℕ × ℕ)) (old : List ℕ) (t : ℕ) → f (0, 0) ≡ 0 → t < length o → at (over (map f o) old) t ≡ f (get_or o t (0, 0))
over_part f o old t z h = over_new (map f o) old t (omega (arith, parts_long f o)) ∙ ap (get_or (map f o) t) (sym z) ∙ get_or-map f o t (0, 0)

module _ (m : ℕ) (a b : List ℕ) (t : ℕ) (h : t < m) where
  pub first_is : at (firsts (pairs m a b)) t ≡ at a t
  first_is = get_or-map (λ (p : ℕ × ℕ). p.0) (pairs m a b) t (0, 0) ∙ ap (λ (p : ℕ × ℕ). p.0) (pair_is m a b t h)

  pub second_is : at (seconds (pairs m a b)) t ≡ at b t
  second_is = get_or-map (λ (p : ℕ × ℕ). p.1) (pairs m a b) t (0, 0) ∙ ap (λ (p : ℕ × ℕ). p.1) (pair_is m a b t h)

-- ---- What sound lists say

module _ {m : ℕ} {l : Lists} (s : SoundLists m l) where
  pub lists_well : Well (record_of m l)
  lists_well =
      let G = columns_good s in
      record {
        sized = s.sized;
        columns = good_columns G;
        few = entries_few G;
        places = pairs_length m l.order_rows l.order_cols;
        rows_below = λ t h. omega (arith, first_is m l.order_rows l.order_cols t h, s.order.rows.below t h);
        cols_below = λ t h. omega (arith, second_is m l.order_rows l.order_cols t h, s.order.cols.below t h);
      }

  pub lists_sound : SoundRecord (record_of m l)
  lists_sound = sound_same (λ t h. sym (first_is m l.order_rows l.order_cols t h)) (λ t h. sym (second_is m l.order_rows l.order_cols t h)) s.order

-- ---- What lists say that hold a record

module _ {x : Record} (w : Well x) {l : Lists} (R : Takes x.size (total x) l) where
  abbrev m : ℕ
  m = x.size

  as_many : total x ≡ start_of x.columns m
  as_many = flat_length x.columns ∙ ap (start_of x.columns) w.columns.size

  few : start_of x.columns m ≤ max_total
  few = omega (arith, as_many, w.few)

  takes : Takes m (start_of x.columns m) l
  takes = rw (sym as_many) R

  order_back : pairs m (over (firsts x.order) l.order_rows) (over (seconds x.order) l.order_cols) ≡ x.order
  order_back =
      ext_get_or (0, 0) (pairs m a b) x.order (n ∙ sym w.places)
      (λ t h.
      let k : t < length x.order = omega (arith, n, w.places) in
      pair_is m a b t (omega (arith, n))
      ∙ ap₂ (λ (r c : ℕ). (r, c)) (over_part (λ (p : ℕ × ℕ). p.0) x.order l.order_rows t refl k) (over_part (λ (p : ℕ × ℕ). p.1) x.order l.order_cols t refl k))
    where
      a : List ℕ
      a = over (firsts x.order) l.order_rows

      b : List ℕ
      b = over (seconds x.order) l.order_cols

      n : length (pairs m a b) ≡ m
      n = pairs_length m a b

  pub held_back : record_of m (held_record x l) ≡ x
  held_back = ap₂ (λ (P : List (List ℕ)) (o : List (ℕ × ℕ)). record_with m P o) (columns_back w.sized w.columns few takes) order_back

  pub held_rows : rows m (held_record x l) ≡ turned m x.columns
  held_rows = rows_back w.sized w.columns few takes

  pub held_sound : SoundRecord x → SoundLists m (held_record x l)
  held_sound s =
      holding_sound w.sized w.columns few takes (firsts x.order) (seconds x.order)
      (record {
        row_count = parts_long (λ (p : ℕ × ℕ). p.0) x.order ∙ w.places;
        col_count = parts_long (λ (p : ℕ × ℕ). p.1) x.order ∙ w.places;
        sound = s;
      })
