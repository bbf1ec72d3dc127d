-- Lists that hold a listing read back as its parts, and are a good listing where those are columns.
-- Rests on Holding.antt, Between.antt and `pattern`.
use mathlib.Core.List.{List, []}
use mathlib.Core.Path.{◌≡◌, sym, ap, ap₂, ◌∙◌}
use Prim.Native.Nat.{ℕ, ◌+◌, ◌-◌, ◌≤◌, ◌<◌}
use native.Mathlib.Omega.{arith}
use lib.ListN.{length}
use lib.Seq.{ext_get_or}
use Rattle.pattern.specs.Flat.{flat, start_of, starts_of}
use Rattle.pattern.specs.Pattern.{column}
use Rattle.pattern.specs.Places.{at}
use Rattle.pattern.specs.Series.{each}
use Rattle.pattern.proofs.Each.{length_each, each_at, each_same, each_is}
use Rattle.pattern.proofs.Flats.{flat_at}
use Rattle.pattern.proofs.Tallies.{tally_none, tally_next, tally_more, flat_length}
use Rattle.pattern.proofs.Turning.{Columns}
use Rattle.listing.specs.Held.{Held}
use Rattle.listing.specs.Limits.{max_size, max_total}
use Rattle.listing.specs.Listing.{between, part, parts, Good}
use Rattle.listing.proofs.Between.{between_length, between_at}
use Rattle.listing.proofs.Holding.{over_new, over_length}

module _ {m : ℕ} {Q : List (List ℕ)} {starts entries starts' entries' : List ℕ} (size : length Q ≡ m) (room : m < length starts)
    (fits : start_of Q m ≤ length entries) (H : Held Q starts entries starts' entries') where
  starts_many : length (starts_of Q) ≡ m + 1
  starts_many = length_each (start_of Q) (length Q + 1) ∙ ap (λ (n : ℕ). n + 1) size

  entries_many : length (flat Q) ≡ start_of Q m
  entries_many = flat_length Q ∙ ap (start_of Q) size

  -- The lists are as long as before.
  pub held_starts_long : length starts' ≡ length starts
  held_starts_long = ap length H.starts_after ∙ over_length (starts_of Q) starts (omega (arith, starts_many))

  pub held_entries_long : length entries' ≡ length entries
  held_entries_long = ap length H.entries_after ∙ over_length (flat Q) entries (omega (arith, entries_many))

  pub held_start : (k : ℕ) → k ≤ m → at starts' k ≡ start_of Q k
  held_start k h =
      ap (λ (l : List ℕ). at l k) H.starts_after
      ∙ over_new (starts_of Q) starts k (omega (arith, starts_many))
      ∙ each_at (start_of Q) (length Q + 1) k 0 (omega arith)

  -- A part ends where the next one starts.
  part_ends : (k : ℕ) → start_of Q (k + 1) ≡ start_of Q k + length (column Q k)
  part_ends k = tally_next (λ i. length (column Q i)) k

  part_fits : (k : ℕ) → k < m → start_of Q (k + 1) ≤ start_of Q m
  part_fits k h = tally_more (λ i. length (column Q i)) (k + 1) m (omega arith)

  pub held_part : (k : ℕ) → k < m → part starts' entries' k ≡ column Q k
  held_part k h =
      ap₂ (λ (a b : ℕ). between a b entries') (held_start k (omega arith)) (held_start (k + 1) (omega arith))
      ∙ ext_get_or 0 (between (start_of Q k) (start_of Q (k + 1)) entries') (column Q k) (many ∙ omega (arith, part_ends k)) same
    where
      many : length (between (start_of Q k) (start_of Q (k + 1)) entries') ≡ start_of Q (k + 1) - start_of Q k
      many = between_length (start_of Q k) (start_of Q (k + 1)) entries' (omega (arith, part_fits k h, held_entries_long))

      same : (i : ℕ) → i < length (between (start_of Q k) (start_of Q (k + 1)) entries') → at (between (start_of Q k) (start_of Q (k + 1)) entries') i ≡ at (column Q k) i
      same i b =
          between_at (start_of Q k) (start_of Q (k + 1)) entries' i (omega (arith, many))
          ∙ ap (λ (l : List ℕ). at l (start_of Q k + i)) H.entries_after
          ∙ over_new (flat Q) entries (start_of Q k + i) (omega (arith, many, part_fits k h, entries_many))
          ∙ flat_at Q k i (omega (arith, many, part_ends k))

  pub held_parts : parts m starts' entries' ≡ Q
  held_parts = each_same (part starts' entries') (column Q) m held_part ∙ ap (each (column Q)) (sym size) ∙ each_is Q []

  pub held_good : Columns m Q → start_of Q m ≤ max_total → m ≤ max_size → Good m starts' entries'
  held_good C few small =
      record {
        small = small;
        room = record { starts_long = omega (arith, held_starts_long); entries_long = omega (arith, held_start m (omega arith), held_entries_long) };
        formed =
            record {
              starts_right =
                  record {
                    first = held_start 0 (omega arith) ∙ tally_none (λ i. length (column Q i));
                    never_fall = λ k h. omega (arith, held_start k (omega arith), held_start (k + 1) (omega arith), part_ends k);
                    total = omega (arith, held_start m (omega arith));
                  };
              rise = λ k h. rw (held_part k h) (C.rise k h);
            };
      }
