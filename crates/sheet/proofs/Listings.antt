-- A column listing that is stored column by column. Rests on `pattern` and `listing`.
use mathlib.Core.List.{List, []}
use mathlib.Core.Path.{◌≡◌, refl, sym, ap, ◌∙◌, subst₂}
use Prim.Native.Nat.{ℕ, ◌+◌, ◌≤◌, ◌<◌}
use native.Mathlib.Omega.{arith}
use lib.ListN.{length, set}
use Rattle.pattern.specs.Flat.{flat, start_of, starts_of}
use Rattle.pattern.specs.Pattern.{column}
use Rattle.pattern.specs.Places.{at}
use Rattle.pattern.specs.Series.{each}
use Rattle.pattern.specs.Turned.{turned}
use Rattle.pattern.proofs.Each.{length_each, each_at, each_is}
use Rattle.pattern.proofs.Flats.{flat_more, flat_start}
use Rattle.pattern.proofs.Tallies.{tally_none, tally_next, tally_more, flat_length}
use Rattle.pattern.proofs.Turning.{Columns}
use Rattle.listing.specs.Held.{over, put, Held}
use Rattle.listing.specs.Limits.{max_size, max_total}
use Rattle.listing.specs.Listing.{parts, Good}
use Rattle.listing.proofs.Puts.{put_over, put_length}
use Rattle.listing.proofs.Readback.{held_start, held_parts, held_good}
use Rattle.listing.proofs.Storing.{Stored, stored_none, stored_more, stored_all}

-- Two lists have room for the listing of the `m` columns `P`.
pub record RoomFor (m : ℕ) (P : List (List ℕ)) (starts entries : List ℕ) : Type 0 where
  pub size : length P ≡ m
  pub starts_fit : m < length starts
  pub entries_fit : length (flat P) ≤ length entries

-- The columns before column `c` have been stored, with their starts; the start of column `c` is `total`.
pub record Listed (P : List (List ℕ)) (starts entries starts' entries' : List ℕ) (c total : ℕ) : Type 0 where
  pub ends : total ≡ start_of P c
  pub starts_now : Stored 0 (starts_of P) starts c starts'
  pub entries_long : length entries' ≡ length entries
  pub entries_now : entries' ≡ over (flat (each (column P) c)) entries

module _ {m : ℕ} {P : List (List ℕ)} {starts entries : List ℕ} (R : RoomFor m P starts entries) where
  starts_many : length (starts_of P) ≡ m + 1
  starts_many = length_each (start_of P) (length P + 1) ∙ ap (λ (n : ℕ). n + 1) R.size

  start_is : (c : ℕ) → c ≤ m → at (starts_of P) c ≡ start_of P c
  start_is c h = each_at (start_of P) (length P + 1) c 0 (omega (arith, R.size))

  all_columns : each (column P) m ≡ P
  all_columns = ap (each (column P)) (sym R.size) ∙ each_is P []

  flat_many : (c : ℕ) → c ≤ m → length (flat (each (column P) c)) ≡ start_of P c
  flat_many c h = flat_start (column P) m c h ∙ ap (λ (Q : List (List ℕ)). start_of Q c) all_columns

  next_start : (c : ℕ) → start_of P (c + 1) ≡ start_of P c + length (column P c)
  next_start c = tally_next (λ i. length (column P i)) c

  start_fits : (c : ℕ) → c ≤ m → start_of P c ≤ length entries
  start_fits c h = omega (arith, tally_more (λ i. length (column P i)) c m h, flat_length P, ap (start_of P) R.size, R.entries_fit)

  pub listed_none : Listed P starts entries starts entries 0 0
  listed_none = record { ends = sym (tally_none (λ i. length (column P i))); starts_now = stored_none; entries_long = refl; entries_now = refl }

  module _ {starts' entries' : List ℕ} {c total : ℕ} (L : Listed P starts entries starts' entries' c total) where
    -- There is room for the next column.
    pub listed_room : c < m → total + length (column P c) ≤ length entries'
    listed_room h = omega (arith, L.ends, next_start c, start_fits (c + 1) (omega arith), L.entries_long)

    -- One start more.
    started : (v : ℕ) → c ≤ m → v ≡ total → Stored 0 (starts_of P) starts (c + 1) (set starts' c v)
    started v h e =
        stored_more c v (omega (arith, starts_many)) (omega (arith, starts_many, R.starts_fit)) (omega arith) (e ∙ L.ends ∙ sym (start_is c h)) L.starts_now

    pub listed_more : (n v : ℕ) {rows entries'' : List ℕ} → c < m → v ≡ total → n ≡ length (column P c) → rows ≡ column P c
        → entries'' ≡ put total rows entries' → Listed P starts entries (set starts' c v) entries'' (c + 1) (total + n)
    listed_more n v {rows} {entries''} h e many are laid =
        record {
          ends = omega (arith, L.ends, next_start c);
          starts_now = started v (omega arith) e;
          entries_long = ap length put_now ∙ put_length total (column P c) entries' (listed_room h) ∙ L.entries_long;
          entries_now =
              put_now
              ∙ ap (put total (column P c)) L.entries_now
              ∙ put_over (flat (each (column P) c)) (column P c) entries total (L.ends ∙ sym (flat_many c (omega arith)))
              ∙ ap (λ (l : List ℕ). over l entries) (sym (flat_more (column P) c));
        }
      where
        put_now : entries'' ≡ put total (column P c) entries'
        put_now = laid ∙ ap (λ (l : List ℕ). put total l entries') are

    pub listed_all : (v : ℕ) → c ≡ m → v ≡ total → Held P starts entries (set starts' m v) entries'
    listed_all v e ev =
        record {
          starts_after = ap (λ (k : ℕ). set starts' k v) (sym e) ∙ stored_all (omega (arith, starts_many)) (started v (omega arith) ev);
          entries_after = L.entries_now ∙ ap (λ (n : ℕ). over (flat (each (column P) n)) entries) e ∙ ap (λ (Q : List (List ℕ)). over (flat Q) entries) all_columns;
        }

  -- The listing has been stored: it reads back as the columns.
  module _ {starts' entries' : List ℕ} (H : Held P starts entries starts' entries') where
    total_is : start_of P m ≡ length (flat P)
    total_is = ap (start_of P) (sym R.size) ∙ sym (flat_length P)

    pub stored_total : at starts' m ≡ length (flat P)
    stored_total = held_start R.size R.starts_fit (omega (arith, total_is, R.entries_fit)) H m (omega arith) ∙ total_is

    stored_columns : parts m starts' entries' ≡ P
    stored_columns = held_parts R.size R.starts_fit (omega (arith, total_is, R.entries_fit)) H

    pub stored_good : Columns m P → length (flat P) ≤ max_total → m ≤ max_size → Good m starts' entries'
    stored_good C few small = held_good R.size R.starts_fit (omega (arith, total_is, R.entries_fit)) H C (omega (arith, total_is)) small

    -- And so does its turned listing.
    pub stored_turned : {n : ℕ} {a b a' b' : List ℕ} → m ≡ n → Held (turned m (parts m starts' entries')) a b a' b' → Held (turned n P) a b a' b'
    stored_turned {a = a} {b} {a'} {b'} e h = subst₂ (λ (n : ℕ) (Q : List (List ℕ)). Held (turned n Q) a b a' b') e stored_columns h
