-- A register held in lent lists with room for it reads back as what is held, and is sound where its order is. Rests on
-- specs/Lent.antt, specs/Takes.antt, `pattern` and `listing`.
use mathlib.Core.List.{List, []}
use mathlib.Core.Path.{◌≡◌, refl, sym, subst, subst₂}
use Prim.Native.Nat.{ℕ, ◌≤◌, ◌<◌}
use native.Mathlib.Omega.{arith}
use lib.ListN.{length}
use Rattle.pattern.specs.Flat.{flat, start_of, starts_of}
use Rattle.pattern.specs.Order.{Sound, SoundOrder}
use Rattle.pattern.specs.Pattern.{Entry}
use Rattle.pattern.specs.Places.{at}
use Rattle.pattern.specs.Turned.{turned, SameEntries}
use Rattle.pattern.proofs.Pairing.{sound_same}
use Rattle.pattern.proofs.Tallies.{turned_total}
use Rattle.pattern.proofs.Turning.{Columns, turned_columns, turned_same}
use Rattle.listing.specs.Held.{Held, over}
use Rattle.listing.specs.Limits.{Sized, max_size, max_total}
use Rattle.listing.specs.Listing.{parts, Good}
use Rattle.listing.proofs.Holding.{over_new, over_length}
use Rattle.listing.proofs.Readback.{held_parts, held_good}
use Rattle.register.specs.Takes.{Takes, holding}
use Rattle.register.specs.Lent.{Lists, columns, rows, SoundLists}

-- The listing of a pattern written over lists with room for it reads back as the pattern, and is a good listing.
module _ {m : ℕ} {Q : List (List ℕ)} (C : Columns m Q) (small : m ≤ max_size) (few : start_of Q m ≤ max_total) (starts entries : List ℕ)
    (room : m < length starts) (fits : start_of Q m ≤ length entries) where
  held : Held Q starts entries (over (starts_of Q) starts) (over (flat Q) entries)
  held = record { starts_after = refl; entries_after = refl }

  reads_back : parts m (over (starts_of Q) starts) (over (flat Q) entries) ≡ Q
  reads_back = held_parts C.size room fits held

  reads_well : Good m (over (starts_of Q) starts) (over (flat Q) entries)
  reads_well = held_good C.size room fits held C few small

module _ {m : ℕ} {P : List (List ℕ)} {l : Lists} (sized : Sized m) (C : Columns m P) (few : start_of P m ≤ max_total) (R : Takes m (start_of P m) l) where
  -- The pattern turned takes as much room.
  as_many : start_of (turned m P) m ≡ start_of P m
  as_many = turned_total C

  pub columns_back : columns m (holding m P [] [] l) ≡ P
  columns_back = reads_back C sized.1 few l.col_starts l.col_rows R.col_starts_fit R.col_rows_fit

  columns_well : Good m (over (starts_of P) l.col_starts) (over (flat P) l.col_rows)
  columns_well = reads_well C sized.1 few l.col_starts l.col_rows R.col_starts_fit R.col_rows_fit

  pub rows_back : rows m (holding m P [] [] l) ≡ turned m P
  rows_back = reads_back (turned_columns m P) sized.1 (omega (arith, as_many)) l.row_starts l.row_cols R.row_starts_fit (omega (arith, as_many, R.row_cols_fit))

  rows_well : Good m (over (starts_of (turned m P)) l.row_starts) (over (flat (turned m P)) l.row_cols)
  rows_well = reads_well (turned_columns m P) sized.1 (omega (arith, as_many)) l.row_starts l.row_cols R.row_starts_fit (omega (arith, as_many, R.row_cols_fit))

  -- With a sound order it is a sound register.
  pub holding_sound : (p q : List ℕ) → SoundOrder (Entry P) m p q → SoundLists m (holding m P p q l)
  holding_sound p q o =
      record {
        sized = sized;
        long =
            record {
              columns_fit = columns_well.room;
              rows_fit = rows_well.room;
              order_rows_fit = omega (arith, R.order_rows_fit, over_length p l.order_rows (omega (arith, o.row_count, R.order_rows_fit)));
              order_cols_fit = omega (arith, R.order_cols_fit, over_length q l.order_cols (omega (arith, o.col_count, R.order_cols_fit)));
            };
        formed = record { columns_formed = columns_well.formed; rows_formed = rows_well.formed };
        agree = subst₂ SameEntries (sym columns_back) (sym rows_back) (turned_same C);
        order =
            subst (λ (P : List (List ℕ)). Sound (Entry P) m (at (over p l.order_rows)) (at (over q l.order_cols))) (sym columns_back)
            (sound_same (λ t h. sym (over_new p l.order_rows t (omega (arith, o.row_count)))) (λ t h. sym (over_new q l.order_cols t (omega (arith, o.col_count)))) o.sound);
      }
