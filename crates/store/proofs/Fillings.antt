-- A listing of which an empty column is given entries: the later ones go up, and their starts are raised. Rests on
-- specs/Store.antt, `pattern` and `listing`.
use mathlib.Core.Bool.{cond}
use mathlib.Core.List.{List, ◌++◌, append-nil, append_assoc}
use mathlib.Core.Logic.{◌≢◌, ⊎_elim}
use mathlib.Core.Path.{◌≡◌, refl, sym, ap, ap₂, ◌∙◌}
use Prim.Native.Nat.{ℕ, zero, suc, ◌+◌, ◌≤◌, ◌<◌}
use native.Mathlib.Decide.{dec_lt}
use native.Mathlib.Numerals.{add-one}
use native.Mathlib.Omega.{arith}
use lib.Dec.{eqb}
use lib.ListN.{length, take, length-append}
use lib.Seq.{length-take-le}
use Rattle.pattern.specs.Flat.{flat, start_of, starts_of}
use Rattle.pattern.specs.Pattern.{column}
use Rattle.pattern.specs.Places.{at}
use Rattle.pattern.specs.Series.{each}
use Rattle.pattern.proofs.Each.{length_each, each_at, each_same}
use Rattle.pattern.proofs.Flats.{flat_more, flat_start}
use Rattle.pattern.proofs.Search.{last_or}
use Rattle.pattern.proofs.Tests.{choose_same, choose_other}
use Rattle.listing.specs.Held.{over, put, Held}
use Rattle.listing.specs.Listing.{between, part, parts, Good}
use Rattle.listing.proofs.Between.{between_none, between_length, take_between, between_between}
use Rattle.listing.proofs.Holding.{over_is}
use Rattle.listing.proofs.Listings.{part_is, good_within, starts_rise}
use Rattle.listing.proofs.Puts.{put_put, put_is_over, put_length}
use Rattle.store.specs.Store.{filled, Raised}

module _ {m : ℕ} {starts entries : List ℕ} (G : Good m starts entries) where
  start_fits : (k : ℕ) → k ≤ m → at starts k ≤ length entries
  start_fits k h = omega (arith, starts_rise G.formed.starts_right k m h (omega arith), G.room.entries_long)

  -- The first parts are what stands before the next one's start.
  pub parts_flat : (k : ℕ) → k ≤ m → flat (each (part starts entries) k) ≡ take (at starts k) entries
  parts_flat zero h = ap (λ (n : ℕ). take n entries) (sym G.formed.starts_right.first)
  parts_flat (suc k) h =
      ap (λ (n : ℕ). flat (each (part starts entries) n)) (sym (add-one k))
      ∙ flat_more (part starts entries) k
      ∙ ap (λ (l : List ℕ). l ++ part starts entries k) (parts_flat k (omega arith))
      ∙ take_between (at starts k) (at starts (k + 1)) entries (good_within G k (omega arith)).no_fall
      ∙ ap (λ (n : ℕ). take (at starts n) entries) (add-one k)

  module _ {c : ℕ} (new : List ℕ) (in_size : c < m) (empty : at starts (c + 1) ≡ at starts c) where
    abbrev g : ℕ → List ℕ
    g k = cond (eqb k c) new (column (parts m starts entries) k)

    abbrev F : List (List ℕ)
    F = filled m (parts m starts entries) c new

    abbrev from : ℕ
    from = at starts c

    other : (k : ℕ) → k < m → k ≢ c → g k ≡ part starts entries k
    other k h n = choose_other k c new (column (parts m starts entries) k) n ∙ part_is m starts entries k h

    flat_before : (k : ℕ) → k ≤ c → flat (each g k) ≡ take (at starts k) entries
    flat_before k h = ap flat (each_same g (part starts entries) k (λ i u. other i (omega arith) (λ z. omega arith))) ∙ parts_flat k (omega arith)

    flat_after : (k : ℕ) → c < k → k ≤ m → flat (each g k) ≡ take from entries ++ (new ++ between from (at starts k) entries)
    flat_after zero h b = absurd (omega arith)
    flat_after (suc k) h b =
        ap (λ (n : ℕ). flat (each g n)) (sym (add-one k))
        ∙ flat_more g k
        ∙ ⊎_elim
        (λ u. ap₂ (λ (x y : List ℕ). x ++ y) (flat_after k u (omega arith)) (other k b (λ z. omega arith)) ∙ later k u b)
        (λ e. at_once k (sym e))
        (last_or k c h)
        ∙ ap (λ (n : ℕ). take from entries ++ (new ++ between from (at starts n) entries)) (add-one k)
      where
        at_once : (k : ℕ) → k ≡ c → flat (each g k) ++ g k ≡ take from entries ++ (new ++ between from (at starts (k + 1)) entries)
        at_once k e =
            ap₂ (λ (x y : List ℕ). x ++ y) (flat_before k (omega arith)) (choose_same k c new (column (parts m starts entries) k) e)
            ∙ ap (λ (n : ℕ). take (at starts n) entries ++ new) e
            ∙ ap (λ (l : List ℕ). take from entries ++ l) (sym (append-nil new) ∙ ap (λ (l : List ℕ). new ++ l) (sym (between_none from entries)))
            ∙ ap (λ (n : ℕ). take from entries ++ (new ++ between from n entries)) (sym empty ∙ ap (λ (n : ℕ). at starts (n + 1)) (sym e))

        later : (k : ℕ) → c < k → k < m
            → (take from entries ++ (new ++ between from (at starts k) entries)) ++ part starts entries k ≡ take from entries ++ (new ++ between from (at starts (k + 1)) entries)
        later k h b =
            append_assoc (take from entries) (new ++ between from (at starts k) entries) (part starts entries k)
            ∙ ap (λ (l : List ℕ). take from entries ++ l) (append_assoc new (between from (at starts k) entries) (part starts entries k)
            ∙ ap (λ (l : List ℕ). new ++ l)
            (between_between from (at starts k) entries (starts_rise G.formed.starts_right c k (omega arith) (omega arith)) (at starts (k + 1)) (good_within G k b).no_fall))

    start_before : (k : ℕ) → k ≤ c → start_of F k ≡ at starts k
    start_before k h = sym (flat_start g m k (omega arith)) ∙ ap length (flat_before k h) ∙ length-take-le (at starts k) entries (start_fits k (omega arith))

    start_after : (k : ℕ) → c < k → k ≤ m → start_of F k ≡ at starts k + length new
    start_after k h b =
        sym (flat_start g m k b)
        ∙ ap length (flat_after k h b)
        ∙ omega (
          arith,
          length-append (take from entries) (new ++ between from (at starts k) entries),
          length-append new (between from (at starts k) entries),
          length-take-le from entries (start_fits c (omega arith)),
          between_length from (at starts k) entries (start_fits k b),
          starts_rise G.formed.starts_right c k (omega arith) b,
        )

    pub filled_total : start_of F m ≡ at starts m + length new
    filled_total = start_after m in_size (omega arith)

    -- The later entries have gone up from `start`.
    module _ {start to n : ℕ} {entries' : List ℕ} (begins : start ≡ from) (ends : to ≡ at starts m) (many : n ≡ length new)
        (room : start_of F m ≤ length entries) (up : entries' ≡ put (start + n) (between start to entries) entries) where
      rise : from ≤ at starts m
      rise = starts_rise G.formed.starts_right c m (omega arith) (omega arith)

      -- There is room for the new ones.
      pub filled_room : start + n ≤ length entries'
      filled_room =
          omega (
            arith,
            rise,
            filled_total,
            ap length up,
            between_length start to entries (omega (arith, filled_total)),
            put_length (start + n) (between start to entries) entries
                (omega (arith, rise, filled_total, between_length start to entries (omega (arith, filled_total)))),
          )

      -- With these in between, and the starts raised, it is the filled listing.
      module _ {starts' entries'' : List ℕ} (R : Raised c m n starts starts') (laid : entries'' ≡ put start new entries') where
        start_now : (k : ℕ) → k < m + 1 → at starts' k ≡ start_of F k
        start_now k h = go (dec_lt c k)
          where
            go : Dec (c < k) → at starts' k ≡ start_of F k
            go (yes u) = omega (arith, R.after k u (omega arith), start_after k u (omega arith))
            go (no u) = R.before k (omega arith) ∙ sym (start_before k (omega arith))

        moved : entries'' ≡ put from new (put (from + length new) (between from (at starts m) entries) entries)
        moved = cc (laid, up, begins, ends, many)

        pub filled_held : Held F starts entries starts' entries''
        filled_held =
            record {
              starts_after =
                  over_is (starts_of F) starts (length_each (start_of F) (length F + 1) ∙ ap (λ (n : ℕ). n + 1) (length_each g m)) (omega (arith, G.room.starts_long)) R.kept
                  (λ k h. start_now k h ∙ sym (each_at (start_of F) (length F + 1) k 0 (omega (arith, length_each g m))));
              entries_after =
                  moved
                  ∙ put_put from new (between from (at starts m) entries) entries (from + length new) refl
                  (omega (arith, filled_total, rise))
                  ∙ put_is_over from (new ++ between from (at starts m) entries) entries (start_fits c (omega arith))
                  ∙ ap (λ (l : List ℕ). over l entries) (sym (flat_after m in_size (omega arith)));
            }
