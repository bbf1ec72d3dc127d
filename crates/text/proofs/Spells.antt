-- What has been read is so spelt, byte for byte. Rests on Readings.antt.
use mathlib.Core.List.{List, [], ◌∷◌, ◌++◌, append-nil, append_assoc}
use mathlib.Core.Path.{◌≡◌, refl, sym, ap, ◌∙◌, subst}
use Prim.Native.Nat.{ℕ, ◌+◌, ◌-◌, ◌*◌, ◌≤◌, ◌<◌}
use native.Mathlib.Decide.{dec_lt}
use native.Mathlib.Omega.{arith}
use lib.ListN.{length, length-append, get_or-append}
use lib.Seq.{get_or_at}
use Rattle.pattern.specs.Places.{at}
use Rattle.std.specs.Prelude.{Some}
use Rattle.text.specs.Spelling.{Spelt, empty, gap, inside, wrong, with_space, with_digit, with_byte, stand, passed}
use Rattle.text.specs.Text.{space, max_number, decimal, spaced, Small}
use Rattle.text.specs.declared.lines.Stand.{Stand}
use Rattle.text.specs.declared.lines.Stand.TheVariants.{Word, Gap, Inside}
use Rattle.text.proofs.Decimals.{decimal_digit, decimal_next}
use Rattle.text.proofs.Readings.{reads, reads_none, reads_front, Ends}
use Rattle.text.proofs.SpacedLaws.{spaced_none, spaced_behind, spaced_long}
use Rattle.text.proofs.Spellings.{byte_cases, number_cases}

-- ---- Small numbers

module _ (l : List ℕ) (v : ℕ) where
  small_more : Small l → v ≤ max_number → Small (l ++ (v ∷ []))
  small_more s h i k = go (dec_lt i (length l))
    where
      go : Dec (i < length l) → at (l ++ (v ∷ [])) i ≤ max_number
      go (yes u) = rw (get_or-append l (v ∷ []) 0 i u) (s i u)
      go (no u) = rw (get_or_at l v [] 0 i (omega (arith, length-append l (v ∷ [])))) h

  small_less : Small (l ++ (v ∷ [])) → Small l
  small_less s i h = rw (get_or-append l (v ∷ []) 0 i h) at (s i (omega (arith, length-append l (v ∷ []))))

-- ---- The bytes

-- These bytes are so spelt.
abbrev pub Spells : Spelt → List ℕ → Type 0
Spells empty bytes = bytes ≡ []
Spells (gap l) bytes = (bytes ≡ spaced l ++ (space ∷ [])) × Small l
Spells (inside l v) bytes = (bytes ≡ spaced (l ++ (v ∷ []))) × Small (l ++ (v ∷ []))
Spells wrong bytes = Unit {0}

spells_space : (x : Spelt) (bytes : List ℕ) → Spells x bytes → Spells (with_space x) (bytes ++ (space ∷ []))
spells_space empty bytes e = (rw (e, spaced_none), λ i h. absurd (omega arith))
spells_space (gap l) bytes s = tt
spells_space (inside l v) bytes s = (ap (λ (t : List ℕ). t ++ (space ∷ [])) s.0, s.1)
spells_space wrong bytes s = tt

spells_digit : (x : Spelt) (bytes : List ℕ) (d : ℕ) → d < 10 → Spells x bytes → Spells (with_digit x d) (bytes ++ ((48 + d) ∷ []))
spells_digit empty bytes d h s = tt
spells_digit (gap l) bytes d h s = (
  ap (λ (t : List ℕ). t ++ ((48 + d) ∷ [])) s.0
      ∙ append_assoc (spaced l) (space ∷ []) ((48 + d) ∷ [])
      ∙ ap (λ (t : List ℕ). spaced l ++ (space ∷ t)) (sym (decimal_digit d h))
      ∙ sym (spaced_behind l d),
  small_more l d s.1 (omega arith),
)
spells_digit (inside l v) bytes d h s =
    number_cases l v d (λ x. Spells x (bytes ++ ((48 + d) ∷ [])))
    (λ some few. (
      ap (λ (t : List ℕ). t ++ ((48 + d) ∷ [])) (s.0 ∙ spaced_behind l v)
          ∙ append_assoc (spaced l) (space ∷ decimal v) ((48 + d) ∷ [])
          ∙ ap (λ (t : List ℕ). spaced l ++ (space ∷ t)) (sym (decimal_next v d some h))
          ∙ sym (spaced_behind l (10 * v + d)),
      small_more l (10 * v + d) (small_less l v s.1) few,
    ))
    tt
spells_digit wrong bytes d h s = tt

spells_byte : (x : Spelt) (bytes : List ℕ) (b : ℕ) → Spells x bytes → Spells (with_byte x b) (bytes ++ (b ∷ []))
spells_byte x bytes b s =
    byte_cases x (λ y. Spells y (bytes ++ (b ∷ []))) b
    (λ e. subst (λ (n : ℕ). Spells (with_space x) (bytes ++ (n ∷ []))) (sym e) (spells_space x bytes s))
    (λ d h e. subst (λ (n : ℕ). Spells (with_digit x d) (bytes ++ (n ∷ []))) (sym e) (spells_digit x bytes d h s))
    (spells_wrong (bytes ++ (b ∷ [])))
  where
    spells_wrong : (l : List ℕ) → Spells wrong l
    spells_wrong l = tt

-- All that is read.
reads_spells : (x : Spelt) (before bytes : List ℕ) → Spells x before → Spells (reads x bytes) (before ++ bytes)
reads_spells x before [] s = rw (reads_none x, append-nil before) s
reads_spells x before (b ∷ bytes) s =
    rw (reads_front x b bytes)
    (subst (λ (l : List ℕ). Spells (reads (with_byte x b) bytes) l) (append_assoc before (b ∷ []) bytes)
    (reads_spells (with_byte x b) (before ++ (b ∷ [])) bytes (spells_byte x before b s)))

pub spelt : (bytes : List ℕ) → Spells (reads empty bytes) bytes
spelt bytes = reads_spells empty [] bytes refl

-- ---- What follows

-- Just numbers are spelt: these are the bytes, and the numbers are small.
pub ends_spelt : (l : List ℕ) (x : Spelt) (bytes : List ℕ) → Ends x l → Spells x bytes → (bytes ≡ spaced l) × Small l
ends_spelt l empty bytes e s = (s ∙ sym spaced_none ∙ ap spaced (sym e), subst Small (sym e) (λ i h. absurd (omega arith)))
ends_spelt l (gap k) bytes e s = absurd e
ends_spelt l (inside k v) bytes e s = (s.0 ∙ ap spaced (sym e), subst Small (sym e) s.1)
ends_spelt l wrong bytes e s = absurd e

-- A number takes two bytes at least.
pub passed_few : (x : Spelt) (bytes : List ℕ) (r : Stand) → Some r ≡ stand x → Spells x bytes → passed r + passed r ≤ length bytes - 1
passed_few empty bytes r e s = let u : r ≡ Word = cc in omega (arith, ap passed u)
passed_few (gap l) bytes r e s =
    let u : r ≡ Gap (length l) = cc in omega (arith, ap passed u, ap length s.0, length-append (spaced l) (space ∷ []), spaced_long l)
passed_few (inside l v) bytes r e s =
    let u : r ≡ Inside (length l) v = cc in
    omega (arith, ap passed u, ap length s.0, spaced_long (l ++ (v ∷ [])), length-append l (v ∷ []))
passed_few wrong bytes r e s = cc
