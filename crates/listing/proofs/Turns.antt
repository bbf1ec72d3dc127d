-- The steps of turning a listing: starts laid from counts, and rows filled. Rests on Walks.antt, Holding.antt and `pattern`.
use mathlib.Core.List.{List}
use mathlib.Core.Path.{◌≡◌, refl, sym, ap, ◌∙◌}
use Prim.Native.Nat.{ℕ, ◌+◌, ◌-◌, ◌≤◌, ◌<◌}
use native.Mathlib.Omega.{arith}
use lib.ListN.{length, set, length-set}
use lib.Seq.{get_or-set_other}
use Rattle.pattern.specs.Flat.{flat, start_of, starts_of}
use Rattle.pattern.specs.Pattern.{column}
use Rattle.pattern.specs.Places.{at}
use Rattle.pattern.specs.Series.{tally}
use Rattle.pattern.specs.Turned.{row_of, turned}
use Rattle.pattern.proofs.Each.{length_each, each_at}
use Rattle.pattern.proofs.Flats.{flat_at, in_part}
use Rattle.pattern.proofs.Tallies.{tally_none, tally_next, tally_same, flat_length, turned_total}
use Rattle.pattern.proofs.Turning.{turned_row, turned_columns}
use Rattle.listing.specs.Held.{over, Held}
use Rattle.listing.specs.Limits.{max_size}
use Rattle.listing.specs.Listing.{between, parts, Good}
use Rattle.listing.specs.Walk.{Cursors, Walked, Kept, Laid}
use Rattle.listing.proofs.Between.{between_at}
use Rattle.listing.proofs.Holding.{over_is}
use Rattle.listing.proofs.Listings.{good_columns, parts_start}
use Rattle.listing.proofs.Stores.{stored_more}
use Rattle.listing.proofs.Walks.{walked_none}

-- ---- What a list keeps

pub kept_all : {n : ℕ} {l : List ℕ} → Kept n l l
kept_all = record { long = refl; rest = λ q h. refl }

pub kept_on : {n : ℕ} {k l j : List ℕ} → Kept n k l → Kept n l j → Kept n k j
kept_on K L = record { long = L.long ∙ K.long; rest = λ q h. L.rest q h ∙ K.rest q h }

-- A store before place `n`.
pub kept_set : {n : ℕ} {k l : List ℕ} (i v : ℕ) → i < n → Kept n k l → Kept n k (set l i v)
kept_set {l = l} i v h K = record { long = length-set l i v ∙ K.long; rest = λ q u. get_or-set_other l i q v 0 (λ z. omega arith) ∙ K.rest q u }

-- ---- Laying the starts

-- The starts of the first `r` parts have been laid, and `sum` is the next.
pub record Laying (m : ℕ) (counts starts next' starts' : List ℕ) (r sum : ℕ) : Type 0 where
  pub upto : r ≤ m
  pub next_long : length next' ≡ max_size
  pub total : sum ≡ tally (at counts) r
  pub stand : (x : ℕ) → x < r → at next' x ≡ tally (at counts) x
  pub left : (x : ℕ) → r ≤ x → at next' x ≡ at counts x
  pub laid : (x : ℕ) → x < r → at starts' x ≡ tally (at counts) x
  pub kept : Kept r starts starts'

module _ {m : ℕ} {counts starts : List ℕ} where
  pub laying_none : length counts ≡ max_size → Laying m counts starts counts starts 0 0
  laying_none h =
      record {
        upto = omega arith;
        next_long = h;
        total = sym (tally_none (at counts));
        stand = λ x u. absurd (omega arith);
        left = λ x u. refl;
        laid = λ x u. absurd (omega arith);
        kept = kept_all;
      }

  module _ {next' starts' : List ℕ} {r sum : ℕ} (small : m ≤ max_size) (room : m < length starts) (Y : Laying m counts starts next' starts' r sum) where
    more_kept : Kept (r + 1) starts (set starts' r sum)
    more_kept = kept_set {l = starts'} r sum (omega arith) (record { long = Y.kept.long; rest = λ q h. Y.kept.rest q (omega arith) })

    more_laid : (x : ℕ) → x < r + 1 → at (set starts' r sum) x ≡ tally (at counts) x
    more_laid = stored_more (tally (at counts)) starts' r sum (omega (arith, Y.upto, Y.kept.long)) Y.total Y.laid

    pub laying_more : r < m → Laying m counts starts (set next' r sum) (set starts' r sum) (r + 1) (sum + at next' r)
    laying_more h =
        record {
          upto = omega arith;
          next_long = length-set next' r sum ∙ Y.next_long;
          total = omega (arith, Y.total, Y.left r (omega arith), tally_next (at counts) r);
          stand = stored_more (tally (at counts)) next' r sum (omega (arith, Y.next_long)) Y.total Y.stand;
          left = λ x u. get_or-set_other next' r x sum 0 (λ z. omega arith) ∙ Y.left x (omega arith);
          laid = more_laid;
          kept = more_kept;
        }

-- ---- The turned listing

module _ {m : ℕ} {starts entries : List ℕ} (G : Good m starts entries) where
  abbrev P : List (List ℕ)
  P = parts m starts entries

  abbrev Q : List (List ℕ)
  Q = turned m P

  pub turned_start : start_of Q m ≡ at starts m
  turned_start = turned_total (good_columns G) ∙ parts_start m starts entries G.room G.formed.starts_right m (omega arith)

  -- A row ends where the next one starts.
  pub row_ends : (r : ℕ) → r < m → start_of Q (r + 1) ≡ start_of Q r + length (row_of P r m)
  row_ends r h = tally_next (λ i. length (column Q i)) r ∙ ap (λ (l : List ℕ). start_of Q r + length l) (turned_row m P r h)

  -- The counts of the rows add up to their starts.
  pub counts_start : {counts : List ℕ} → Cursors m (λ _. 0) (λ r. row_of P r m) counts → (x : ℕ) → x ≤ m → tally (at counts) x ≡ start_of Q x
  counts_start {counts} N x h =
      tally_same (at counts) (λ i. length (column Q i)) x (λ r u. omega (arith, N.stand r (omega arith), ap length (turned_row m P r (omega arith))))

  module _ {counts old_starts next starts' : List ℕ} (N : Cursors m (λ _. 0) (λ r. row_of P r m) counts) (L : Laid m counts old_starts next starts') where
    -- The walk that fills the rows begins at their starts.
    pub fill_none : (cols : List ℕ) → Walked m (start_of Q) cols (λ r. row_of P r 0) next
    fill_none cols =
        walked_none (start_of Q) P L.next_long (λ r h. L.stand r h ∙ counts_start N r (omega arith)) cols (λ r h. omega (arith, row_ends r h))

    starts_held : m < length old_starts → starts' ≡ over (starts_of Q) old_starts
    starts_held h =
        over_is (starts_of Q) old_starts (length_each (start_of Q) (length Q + 1) ∙ ap (λ (n : ℕ). n + 1) (turned_columns m P).size) (omega arith) L.kept
        (λ x u. L.laid x u ∙ counts_start N x (omega arith) ∙ sym (each_at (start_of Q) (length Q + 1) x 0 (omega (arith, (turned_columns m P).size))))

    module _ {cols cols' next' : List ℕ} (W : Walked m (start_of Q) cols' (λ r. row_of P r m) next')
        (K : Kept (at starts m) cols cols') (fits : at starts m ≤ length cols) where
      -- Place `q` holds what the turned listing has there.
      entry_held : (q : ℕ) → q < at starts m → at cols' q ≡ at (flat Q) q
      entry_held q h =
          let a = in_part Q m q (omega (arith, turned_start)) in
          let r : ℕ = a.part in
          let i : ℕ = q - start_of Q r in
          let e : start_of Q r + i ≡ q = omega (arith, a.from) in
          let n : at next' r ≡ start_of Q (r + 1) = W.cursors.stand r a.in_range ∙ sym (row_ends r a.in_range) in
          let row : between (start_of Q r) (start_of Q (r + 1)) cols' ≡ column Q r = rw n at (W.passed r a.in_range) ∙ sym (turned_row m P r a.in_range) in
          ap (at cols') (sym e)
          ∙ sym (between_at (start_of Q r) (start_of Q (r + 1)) cols' i (omega (arith, a.to)))
          ∙ ap (λ (l : List ℕ). at l i) row
          ∙ sym (flat_at Q r i (omega (arith, a.to, row_ends r a.in_range, ap length (turned_row m P r a.in_range))))
          ∙ ap (at (flat Q)) e

      pub turned_held : m < length old_starts → Held Q old_starts cols starts' cols'
      turned_held h =
          record {
            starts_after = starts_held h;
            entries_after = over_is (flat Q) cols (flat_length Q ∙ ap (start_of Q) (turned_columns m P).size ∙ turned_start) fits K entry_held;
          }
