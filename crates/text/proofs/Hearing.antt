-- A line that is heard: what its reader knows at a place, and what that says at the end. Rests on Scans.antt, Begun.antt and Stands.antt.
use mathlib.Core.List.{List, [], ◌∷◌, ◌++◌}
use mathlib.Core.Path.{◌≡◌, refl, sym, ap, ◌∙◌}
use Prim.Native.Nat.{ℕ, ◌+◌, ◌-◌, ◌≤◌, ◌<◌}
use native.Mathlib.Omega.{arith}
use lib.ListN.{length, length-append}
use Rattle.pattern.specs.Places.{at}
use Rattle.std.specs.Prelude.{Some, None}
use Rattle.text.specs.Heard.{Hears}
use Rattle.text.specs.Spelling.{Spelt, inside, with_byte, stand, passed, first_at}
use Rattle.text.specs.declared.lines.Stand.{Stand}
use Rattle.text.specs.declared.lines.Stand.TheVariants.{Word, Gap, Inside}
use Rattle.text.proofs.Begun.{Leads, leads_more}
use Rattle.text.proofs.Readings.{reads}
use Rattle.text.proofs.Scans.{scan, scan_more, scan_few, scan_right, scan_end, scan_says}
use Rattle.text.proofs.Stands.{at_word, at_gap, at_inside, at_none}

-- The reader has read the first `i` bytes, stands so, and takes this for the first number.
pub record Hearing (bytes : List ℕ) (i : ℕ) (s : Stand) (first : ℕ) : Type 0 where
  pub shows : Some s ≡ stand (scan bytes i)
  pub leads : Leads (scan bytes i) first

pub hearing_none : {bytes : List ℕ} → Hearing bytes 0 Word 0
unfolding reads
hearing_none = record { shows = refl; leads = refl }

module _ {bytes : List ℕ} {i : ℕ} {s : Stand} {first : ℕ} (h : Hearing bytes i s first) where
  pub hearing_few : i ≤ length bytes → passed s + passed s ≤ i - 1
  hearing_few = scan_few bytes i s h.shows

  pub hearing_more : {r : Stand} {f : ℕ} → i < length bytes → ((x : Spelt) → Some s ≡ stand x → Some r ≡ stand (with_byte x (at bytes i))) → f ≡ first_at r first
      → Hearing bytes (i + 1) r f
  hearing_more {r} {f} k q e =
      let more = scan_more bytes i k in
      let u = q (scan bytes i) h.shows in
      let next : Leads (with_byte (scan bytes i) (at bytes i)) (first_at r first) = leads_more (scan bytes i) (at bytes i) r first u h.leads in
      record { shows = u ∙ ap stand (sym more); leads = rw (more, e) next }

  -- Some byte is none that may stand there.
  module _ {line word : List ℕ} (split : line ≡ word ++ bytes) where
    pub hearing_stops : i < length bytes → ((x : Spelt) → Some s ≡ stand x → None ≡ stand (with_byte x (at bytes i))) → Hears word line None
    hearing_stops k q p =
        scan_right bytes (i + 1) split p.0 p.1 (scan_more bytes i k ∙ at_none _ (q (scan bytes i) h.shows))

    -- At the end of the line.
    module _ (end : length bytes ≤ i) where
      pub heard_word : s ≡ Word → Hears word line (Some (record { first = 0; count = 0 }))
      heard_word e =
          let x = at_word (scan bytes i) (ap (λ (s : Stand). Some s) (sym e) ∙ h.shows) in
          ([], scan_says bytes i split [] end (rw x refl), refl, refl)

      pub heard_gap : {n : ℕ} → s ≡ Gap n → Hears word line None
      heard_gap e p =
          let g = at_gap (scan bytes i) (ap (λ (s : Stand). Some s) (sym e) ∙ h.shows) in
          rw g.1 at (scan_end bytes i split p.0 end p.1)

      numbers_heard : {n v : ℕ} (l : List ℕ) → scan bytes i ≡ inside l v → n ≡ length l → Hears word line (Some (record { first = first; count = n + 1 }))
      numbers_heard {n} {v} l e k =
          (l ++ (v ∷ []), scan_says bytes i split (l ++ (v ∷ [])) end (rw e refl), rw e at h.leads, omega (arith, length-append l (v ∷ [])))

      pub heard_inside : {n v : ℕ} → s ≡ Inside n v → Hears word line (Some (record { first = first; count = n + 1 }))
      heard_inside e =
          let g = at_inside (scan bytes i) (ap (λ (s : Stand). Some s) (sym e) ∙ h.shows) in numbers_heard g.0 g.1 g.2
