-- The numbers that have begun, and what a byte more makes of them, of the first of them, and of a list that keeps them. Rests on
-- Spellings.antt and `listing`.
use mathlib.Core.Bool.{cond}
use mathlib.Core.List.{List, [], ◌∷◌, ◌++◌, append-nil, append_assoc}
use mathlib.Core.Path.{◌≡◌, refl, sym, ap, ap₂, ◌∙◌}
use Prim.Native.Nat.{ℕ, suc, ◌≤◌, ◌<◌}
use native.Mathlib.Decide.{dec_lt}
use native.Mathlib.Omega.{arith}
use lib.Dec.{eqb}
use lib.ListN.{length, take, drop, set, length-append, get_or-append}
use lib.Seq.{take-append_seam, set_split, append_snoc, get_or_at}
use borrow.Author.Tests.{eq-eqb, ne_eqb}
use Rattle.pattern.specs.Places.{at}
use Rattle.std.specs.Prelude.{Some}
use Rattle.listing.specs.Held.{over}
use Rattle.listing.proofs.Holding.{over_length}
use Rattle.listing.proofs.Puts.{over_over}
use Rattle.text.specs.Spelling.{Spelt, empty, gap, inside, wrong, with_space, with_digit, with_byte, stand, passed, first_at, stored_at}
use Rattle.text.specs.declared.lines.Stand.{Stand}
use Rattle.text.specs.declared.lines.Stand.TheVariants.{Gap, Inside}
use Rattle.text.proofs.Spellings.{byte_cases, number_cases, wrong_more}

abbrev pub begun : Spelt → List ℕ
begun empty = []
begun (gap l) = l
begun (inside l v) = l ++ (v ∷ [])
begun wrong = []

-- From these numbers to those and one that goes on or is new.
record ToNumber (from before : List ℕ) : Type 0 where
  last : List ℕ
  parts : from ≡ before ++ last
  few : length last ≤ 1

-- From these numbers to what is spelt with a byte more. A space leaves them as they are.
abbrev GoesOn : List ℕ → Spelt → Type 0
GoesOn k empty = ⊥
GoesOn k (gap l) = k ≡ l
GoesOn k (inside l v) = ToNumber k l
GoesOn k wrong = Unit {0}

space_goes_on : (x : Spelt) → GoesOn (begun x) (with_space x)
space_goes_on empty = refl
space_goes_on (gap l) = tt
space_goes_on (inside l v) = refl
space_goes_on wrong = tt

digit_goes_on : (x : Spelt) (d : ℕ) → GoesOn (begun x) (with_digit x d)
digit_goes_on empty d = tt
digit_goes_on (gap l) d = record { last = []; parts = sym (append-nil l); few = omega arith }
digit_goes_on (inside l v) d = number_cases l v d (GoesOn (l ++ (v ∷ []))) (λ h k. record { last = v ∷ []; parts = refl; few = omega arith }) tt
digit_goes_on wrong d = tt

byte_goes_on : (x : Spelt) (b : ℕ) → GoesOn (begun x) (with_byte x b)
byte_goes_on x b = byte_cases x (GoesOn (begun x)) b (λ e. space_goes_on x) (λ d h e. digit_goes_on x d) tt

-- ---- Inside a number

module _ {k l : List ℕ} (g : ToNumber k l) (v : ℕ) where
  no_longer : length k ≤ length (l ++ (v ∷ []))
  no_longer = omega (arith, ap length g.parts, length-append l g.last, length-append l (v ∷ []))

  -- A list that keeps the numbers comes to keep this one.
  before_kept : (old : List ℕ) → take (length l) (over k old) ≡ l
  before_kept old =
      ap (λ (t : List ℕ). take (length l) (t ++ drop (length k) old)) g.parts
      ∙ ap (take (length l)) (append_assoc l g.last (drop (length k) old))
      ∙ take-append_seam l (g.last ++ drop (length k) old)

  number_kept : (old : List ℕ) → length l < length old → set (over k old) (length l) v ≡ over (l ++ (v ∷ [])) old
  number_kept old h =
      let n : length (l ++ (v ∷ [])) ≡ suc (length l) = length-append l (v ∷ []) ∙ omega arith in
      set_split (over k old) (length l) v (omega (arith, over_length k old (omega (arith, no_longer)), no_longer))
      ∙ ap₂ (λ (t : List ℕ) (i : ℕ). t ++ (v ∷ drop i (over k old))) (before_kept old) (sym n)
      ∙ sym (append_snoc l v (drop (length (l ++ (v ∷ []))) (over k old)))
      ∙ over_over (l ++ (v ∷ [])) k old no_longer

  -- Where it is not the first, the first stays.
  first_stays : 1 ≤ length l → at k 0 ≡ at (l ++ (v ∷ [])) 0
  first_stays h = ap (λ (t : List ℕ). at t 0) g.parts ∙ get_or-append l g.last 0 0 h ∙ sym (get_or-append l (v ∷ []) 0 0 h)

-- ---- The first number

-- This is the first number that has begun, or 0 where none has.
abbrev pub Leads : Spelt → ℕ → Type 0
Leads empty first = first ≡ 0
Leads (gap l) first = first ≡ at l 0
Leads (inside l v) first = first ≡ at (l ++ (v ∷ [])) 0
Leads wrong first = Unit {0}

leads_on : (k : List ℕ) (y : Spelt) (r : Stand) (first : ℕ) → GoesOn k y → Some r ≡ stand y → first ≡ at k 0 → Leads y (first_at r first)
leads_on k empty r first g u e = absurd g
leads_on k (gap l) r first g u e =
    let s : r ≡ Gap (length l) = cc in ap (λ (r : Stand). first_at r first) s ∙ e ∙ ap (λ (t : List ℕ). at t 0) g
leads_on k (inside l v) r first g u e =
    let s : r ≡ Inside (length l) v = cc in ap (λ (r : Stand). first_at r first) s ∙ go (dec_lt 0 (length l))
  where
    go : Dec (0 < length l) → cond (eqb (length l) 0) v first ≡ at (l ++ (v ∷ [])) 0
    go (yes h) = rw (ne_eqb (length l) 0 (λ u. omega arith)) (e ∙ first_stays g v h)
    go (no h) = rw (eq-eqb (length l) 0 (omega arith)) (sym (get_or_at l v [] 0 0 (omega arith)))
leads_on k wrong r first g u e = tt

pub leads_more : (x : Spelt) (b : ℕ) (r : Stand) (first : ℕ) → Some r ≡ stand (with_byte x b) → Leads x first → Leads (with_byte x b) (first_at r first)
leads_more empty b r first u e = leads_on [] (with_byte empty b) r first (byte_goes_on empty b) u e
leads_more (gap l) b r first u e = leads_on l (with_byte (gap l) b) r first (byte_goes_on (gap l) b) u e
leads_more (inside l v) b r first u e = leads_on (l ++ (v ∷ [])) (with_byte (inside l v) b) r first (byte_goes_on (inside l v) b) u e
leads_more wrong b r first u e = rw (wrong_more b) tt

-- ---- A list that keeps them

kept_on : (k old now : List ℕ) (y : Spelt) (r : Stand) → GoesOn k y → Some r ≡ stand y → passed r < length old → now ≡ over k old → stored_at r now ≡ over (begun y) old
kept_on k old now empty r g u h e = absurd g
kept_on k old now (gap l) r g u h e =
    let s : r ≡ Gap (length l) = cc in ap (λ (r : Stand). stored_at r now) s ∙ e ∙ ap (λ (t : List ℕ). over t old) g
kept_on k old now (inside l v) r g u h e =
    let s : r ≡ Inside (length l) v = cc in
    let n : length l < length old = omega (arith, ap passed s) in
    ap (λ (r : Stand). stored_at r now) s ∙ ap (λ (t : List ℕ). set t (length l) v) e ∙ number_kept g v old n
kept_on k old now wrong r g u h e = cc

pub kept_more : (x : Spelt) (b : ℕ) (old now : List ℕ) (r : Stand) → Some r ≡ stand (with_byte x b) → passed r < length old → now ≡ over (begun x) old
    → stored_at r now ≡ over (begun (with_byte x b)) old
kept_more x b old now r u h e = kept_on (begun x) old now (with_byte x b) r (byte_goes_on x b) u h e
