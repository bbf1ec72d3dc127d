-- A well-formed listing: its parts lie one after another within the lists, and list a pattern. Rests on Between.antt.
use mathlib.Core.List.{List, []}
use mathlib.Core.Path.{◌≡◌, sym, ap, ap₂, ◌∙◌}
use Prim.Native.Nat.{ℕ, zero, suc, ◌+◌, ◌≤◌, ◌<◌}
use native.Mathlib.Numerals.{add-one}
use native.Mathlib.Omega.{arith}
use lib.ListN.{length}
use Rattle.pattern.specs.Flat.{start_of}
use Rattle.pattern.specs.Pattern.{column}
use Rattle.pattern.specs.Places.{at}
use Rattle.pattern.proofs.Climbing.{climbs}
use Rattle.pattern.proofs.Each.{length_each, each_at}
use Rattle.pattern.proofs.Tallies.{tally_none, tally_next}
use Rattle.pattern.proofs.Turning.{Columns}
use Rattle.listing.specs.Limits.{max_total}
use Rattle.listing.specs.Listing.{part, parts, Within, Room, Starts, Listing, Good}
use Rattle.listing.proofs.Between.{between_length}

-- Starts never fall over any distance.
pub starts_rise : {m : ℕ} {starts : List ℕ} → Starts m starts → (j k : ℕ) → j ≤ k → k ≤ m → at starts j ≤ at starts k
starts_rise {m} {starts} S = climbs (at starts) m S.never_fall

module _ {m : ℕ} {starts entries : List ℕ} (R : Room m starts entries) (S : Starts m starts) where
  -- A part lies within the entries.
  pub part_within : (k : ℕ) → k < m → Within starts entries k
  part_within k h = omega (arith, S.never_fall k h, starts_rise S (k + 1) m (omega arith) (omega arith), R.entries_long)

module _ (m : ℕ) (starts entries : List ℕ) where
  pub part_is : (k : ℕ) → k < m → column (parts m starts entries) k ≡ part starts entries k
  part_is k h = each_at (part starts entries) m k [] h

  -- The parts list a pattern.
  pub parts_columns : Listing m starts entries → Columns m (parts m starts entries)
  parts_columns L = record { size = length_each (part starts entries) m; rise = λ k h. rw (part_is k h) (L.rise k h) }

  -- Their starts are the lent ones.
  pub parts_start : Room m starts entries → Starts m starts → (k : ℕ) → k ≤ m → start_of (parts m starts entries) k ≡ at starts k
  parts_start R S zero h = tally_none (λ i. length (column (parts m starts entries) i)) ∙ sym S.first
  parts_start R S (suc k) h =
      ap (start_of (parts m starts entries)) (sym (add-one k))
      ∙ tally_next (λ i. length (column (parts m starts entries) i)) k
      ∙ ap₂ ◌+◌ (parts_start R S k (omega arith)) (ap length (part_is k h) ∙ between_length (at starts k) (at starts (k + 1)) entries (part_within R S k h).in_list)
      ∙ omega (arith, S.never_fall k h, ap (at starts) (add-one k))

module _ {m : ℕ} {starts entries : List ℕ} (G : Good m starts entries) where
  pub good_columns : Columns m (parts m starts entries)
  good_columns = parts_columns m starts entries G.formed

  pub good_within : (k : ℕ) → k < m → Within starts entries k
  good_within = part_within G.room G.formed.starts_right

  pub good_column : {l : List ℕ} (k : ℕ) → k < m → l ≡ part starts entries k → l ≡ column (parts m starts entries) k
  good_column k h e = e ∙ sym (part_is m starts entries k h)

  pub start_small : (k : ℕ) → k ≤ m → at starts k ≤ max_total
  start_small k h = omega (arith, starts_rise G.formed.starts_right k m h (omega arith), G.formed.starts_right.total)
