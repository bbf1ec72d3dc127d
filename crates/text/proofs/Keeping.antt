-- The numbers of a line that are kept in a list while the line is read. Rests on Scans.antt, Begun.antt and Stands.antt.
use mathlib.Core.List.{List, ◌++◌}
use mathlib.Core.Path.{◌≡◌, refl, sym, ap, ap₂, ◌∙◌}
use Prim.Native.Nat.{ℕ, ◌+◌, ◌≤◌, ◌<◌}
use native.Mathlib.Omega.{arith}
use lib.ListN.{length, length-append, take-append-drop}
use Rattle.pattern.specs.Places.{at}
use Rattle.listing.specs.Held.{over}
use Rattle.listing.specs.Listing.{between}
use Rattle.std.proofs.lemmas.Slice.{between_to_end}
use Rattle.std.specs.Prelude.{Option, Some, None, IsSome}
use Rattle.text.specs.Heard.{SaysSome}
use Rattle.text.specs.Spelling.{Spelt, empty, gap, inside, wrong, with_byte, stand, passed, stored_at}
use Rattle.text.specs.Text.{max_line, max_numbers, Speaks}
use Rattle.text.specs.declared.lines.Stand.{Stand}
use Rattle.text.specs.declared.lines.Stand.TheVariants.{Word}
use Rattle.text.proofs.Begun.{begun, kept_more}
use Rattle.text.proofs.Readings.{reads, Ends}
use Rattle.text.proofs.Scans.{scan, scan_more, scan_few, scan_right, scan_end}
use Rattle.text.proofs.Speaking.{speaks_begins}
use Rattle.text.proofs.Stands.{at_none}

-- The bytes behind the word of a line that says numbers.
pub behind : {line word : List ℕ} → SaysSome word line → line ≡ word ++ between (length word) (length line) line
behind {line} {word} p =
    sym (take-append-drop (length word) line) ∙ ap₂ (λ (k l : List ℕ). k ++ l) (speaks_begins line word p) (sym (between_to_end line (length word) (length line) (omega arith)))

-- The reader has read the first `i` bytes, stands so, and the list keeps the numbers that have begun.
pub record Keeping (bytes old : List ℕ) (i : ℕ) (s : Stand) (now : List ℕ) : Type 0 where
  pub shows : Some s ≡ stand (scan bytes i)
  pub kept : now ≡ over (begun (scan bytes i)) old
  pub long : length now ≡ length old

pub keeping_none : {bytes old : List ℕ} → Keeping bytes old 0 Word old
unfolding reads
keeping_none = record { shows = refl; kept = refl; long = refl }

module _ {bytes old : List ℕ} {i : ℕ} {s : Stand} {now : List ℕ} (k : Keeping bytes old i s now) (line word : List ℕ) (split : line ≡ word ++ bytes) where
  -- One byte more, which is none that may not stand there.
  module _ (h : i < length bytes) where
    pub keeping_right : SaysSome word line → (o : Option Stand) → ((x : Spelt) → Some s ≡ stand x → o ≡ stand (with_byte x (at bytes i))) → IsSome o
    keeping_right p (Some r) q = refl
    keeping_right p None q = absurd (scan_right bytes (i + 1) split p.0 p.1 (scan_more bytes i h ∙ at_none _ (q (scan bytes i) k.shows)))

    module _ {r : Stand} (q : (x : Spelt) → Some s ≡ stand x → Some r ≡ stand (with_byte x (at bytes i))) (short : length line ≤ max_line) (room : max_numbers ≤ length old) where
      next : Some r ≡ stand (scan bytes (i + 1))
      next = q (scan bytes i) k.shows ∙ ap stand (sym (scan_more bytes i h))

      few : passed r < length old
      few = omega (arith, scan_few bytes (i + 1) r next (omega arith), ap length split, length-append word bytes)

      pub keeping_room : passed r < length now
      keeping_room = omega (arith, few, k.long)

      pub keeping_more : {now' : List ℕ} → now' ≡ stored_at r now → length now' ≡ length now → Keeping bytes old (i + 1) r now'
      keeping_more e n =
          record {
            shows = next;
            kept =
                e
                ∙ kept_more (scan bytes i) (at bytes i) old now r (q (scan bytes i) k.shows) few k.kept
                ∙ ap (λ (x : Spelt). over (begun x) old) (sym (scan_more bytes i h));
            long = n ∙ k.long;
          }

  -- At the end of the line.
  pub keeping_all : length bytes ≤ i → (l : List ℕ) → Speaks line word l → now ≡ over l old
  keeping_all end l p = k.kept ∙ ap (λ (t : List ℕ). over t old) (sym (all (scan bytes i) (scan_end bytes i split l end p)))
    where
      all : (x : Spelt) → Ends x l → l ≡ begun x
      all empty e = e
      all (gap j) e = absurd e
      all (inside j v) e = e
      all wrong e = absurd e
