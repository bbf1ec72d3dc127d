-- A start from lists that hold the same columns has the same fault, and where it has none both hold the same sound register.
-- Rests on SameColumns.antt, SameRegisters.antt, TwoLadders.antt, `pattern`, `listing` and `register`.
use mathlib.Core.List.{List}
use mathlib.Core.Logic.{◌≢◌}
use mathlib.Core.Path.{◌≡◌, refl, sym, subst, subst₂}
use Prim.Native.Nat.{ℕ, ◌≤◌}
use native.Mathlib.Omega.{arith}
use Rattle.pattern.specs.Flat.{start_of}
use Rattle.pattern.specs.Order.{Sound}
use Rattle.pattern.specs.Pattern.{Entry}
use Rattle.pattern.specs.Places.{at}
use Rattle.pattern.specs.Turned.{SameEntries}
use Rattle.pattern.proofs.Each.{length_each, each_at}
use Rattle.pattern.proofs.Pairing.{sound_same}
use Rattle.listing.specs.Limits.{Sized, max_total}
use Rattle.listing.specs.Listing.{Listing, Good}
use Rattle.listing.proofs.Listings.{good_columns, parts_start}
use Rattle.register.specs.Takes.{Takes, holding}
use Rattle.register.specs.Lent.{Lists, columns, rows, SoundLists}
use Rattle.register.specs.Start.{Started, started, own_places, StartTakes, StartSound, start_lists, StartsWith}
use Rattle.register.proofs.Holdings.{columns_back, holding_sound}
use Rattle.register.proofs.Starting.{start_good}
use Rattle.script.proofs.Heads.{over_same}
use Rattle.script.proofs.Roominess.{Ample, takes_less}
use Rattle.script.proofs.SameColumns.{ColumnsAgree, agree_back, columns_same, listing_same}
use Rattle.script.proofs.SameRegisters.{RegistersAgree}
use Rattle.script.proofs.TwoLadders.{unless_two}

-- ---- What a start writes is a sound register

module _ {m : ℕ} {l : Lists} (sized : Sized m) (T : StartTakes m l) (L : Listing m l.col_starts l.col_rows) (S : StartSound m l) where
  good : Good m l.col_starts l.col_rows
  good = start_good m l sized T L

  total_is : start_of (columns m l) m ≡ at l.col_starts m
  total_is = parts_start m l.col_starts l.col_rows good.room L.starts_right m (omega arith)

  few : start_of (columns m l) m ≤ max_total
  few = omega (arith, total_is, L.starts_right.total)

  room : Takes m (start_of (columns m l) m) l
  room = takes_less (omega arith) (omega (arith, total_is)) T

  -- The columns written over themselves would be one, by the law of `holding`.
  whole : SoundLists m (holding m (columns m l) (own_places m) (own_places m) l)
  whole =
      holding_sound sized (good_columns good) few room (own_places m) (own_places m)
      (record {
        row_count = length_each (λ t. t) m;
        col_count = length_each (λ t. t) m;
        sound = sound_same (λ t h. sym (each_at (λ t. t) m t 0 h)) (λ t h. sym (each_at (λ t. t) m t 0 h)) S;
      })

  start_is_sound : SoundLists m (start_lists m l)
  start_is_sound =
      let k = start_lists m l in
      record {
        sized = sized;
        long =
            record {
              columns_fit = good.room;
              rows_fit = whole.long.rows_fit;
              order_rows_fit = whole.long.order_rows_fit;
              order_cols_fit = whole.long.order_cols_fit;
            };
        formed = record { columns_formed = L; rows_formed = whole.formed.rows_formed };
        agree = subst (λ (P : List (List ℕ)). SameEntries P (rows m k)) (columns_back sized (good_columns good) few room) whole.agree;
        order =
            subst (λ (P : List (List ℕ)). Sound (Entry P) m (at k.order_rows) (at k.order_cols)) (columns_back sized (good_columns good) few room) whole.order;
      }

-- ---- Two starts

pub record StartsAgree (m : ℕ) (o o' : Started) : Type 0 where
  pub same_fault : o.fault ≡ o'.fault
  pub registers : o.fault ≡ 0 → RegistersAgree m o.lists o'.lists

module _ {m : ℕ} {l l' : Lists} (A : ColumnsAgree m l l') (T : Ample l) (T' : Ample l') where
  start_takes : Sized m → StartTakes m l
  start_takes s = takes_less s.1 A.few T

  start_takes' : Sized m → StartTakes m l'
  start_takes' s = takes_less s.1 (agree_back A).few T'

  refused_agree : (n : ℕ) → n ≢ 0 → StartsAgree m (started n l) (started n l')
  refused_agree n z = record { same_fault = refl; registers = λ e. absurd (z e) }

  module _ (s : Sized m) (L : Listing m l.col_starts l.col_rows) (L' : Listing m l'.col_starts l'.col_rows) where
    same : columns m l ≡ columns m l'
    same = columns_same A T.col_rows_fit T'.col_rows_fit L.starts_right

    written_agree : StartSound m l → StartSound m l' → RegistersAgree m (start_lists m l) (start_lists m l')
    written_agree S S' =
        record {
          sound = start_is_sound s (start_takes s) L S;
          sound' = start_is_sound s (start_takes' s) L' S';
          same = record {
            same_columns = same;
            same_rows = over_same (own_places m) l.order_rows l'.order_rows (length_each (λ t. t) m);
            same_cols = over_same (own_places m) l.order_cols l'.order_cols (length_each (λ t. t) m);
          };
        }

    order_to : StartSound m l → StartSound m l'
    order_to S = subst (λ (P : List (List ℕ)). Sound (Entry P) m (λ t. t) (λ t. t)) same S

    order_back : StartSound m l' → StartSound m l
    order_back S = subst (λ (P : List (List ℕ)). Sound (Entry P) m (λ t. t) (λ t. t)) (sym same) S

  pub starts_agree : (o o' : Started) → StartsWith m l o → StartsWith m l' o' → StartsAgree m o o'
  starts_agree o o' =
      let R = StartsAgree m in
      unless_two R (λ s. s) (λ s. s) (refused_agree 1 (λ e. omega arith)) (λ s _.
      unless_two R (λ _. start_takes' s) (λ _. start_takes s) (refused_agree 2 (λ e. omega arith)) (λ _ _.
      unless_two R (λ L. listing_same A T.col_rows_fit T'.col_rows_fit L.starts_right L)
      (λ L. listing_same (agree_back A) T'.col_rows_fit T.col_rows_fit L.starts_right L) (refused_agree 3 (λ e. omega arith)) (λ L L'.
      unless_two R (order_to s L L') (order_back s L L') (refused_agree 5 (λ e. omega arith)) (λ S S' e e'.
      subst₂ R (sym e) (sym e') (record { same_fault = refl; registers = λ _. written_agree s L L' S S' })))))
