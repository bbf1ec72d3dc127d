-- A number that stands in the bytes is read back, and one that was read stands there as it would be written.
-- Rests on Numbers.antt and Readings.antt.
use mathlib.Core.Bool.{Bool, true, false, cond}
use mathlib.Core.List.{List, ◌∷◌, ◌++◌}
use mathlib.Core.Path.{◌≡◌, refl, sym, ap, ap₂, ◌∙◌}
use Prim.Native.Nat.{ℕ, ◌+◌, ◌-◌, ◌*◌, ◌/◌, ◌%◌, ◌≤◌, ◌<◌}
use native.Mathlib.Decide.{dec_lt}
use native.Mathlib.Nat.{add-zero}
use native.Mathlib.Numerals.{add-one}
use native.Mathlib.Omega.{arith}
use lib.Dec.{eqb, ltb}
use lib.ListN.{length, drop, length-drop}
use lib.Seq.{get_or-drop, drop-drop, drop-cons}
use borrow.Author.Tests.{ltb-true, ltb-false, eqb-false, lt-ltb, le-ltb, ne_eqb}
use Rattle.pattern.specs.Places.{at}
use Rattle.sheet.specs.Number.{max_number, groups, Bytes, Read, got, bad, byte, ended, number}
use Rattle.sheet.proofs.Numbers.{groups_one, groups_two, groups_three}
use Rattle.sheet.proofs.Readings.{thing_same, next_same, not_got, passed}

low_group : (g n : ℕ) → g < 128 → (g + 128 * n) % 128 ≡ g
low_group g n h = omega arith

-- ---- A number at a place

module _ (bytes : List ℕ) where
  -- The first of what stands from a place on.
  pub record Stands (p x : ℕ) (l : List ℕ) : Type 0 where
    pub inside : p < length bytes
    pub is : at bytes p ≡ x
    pub rest : drop (p + 1) bytes ≡ l

  pub stands : (p x : ℕ) (l : List ℕ) → drop p bytes ≡ x ∷ l → Stands p x l
  stands p x l e =
      record {
        inside = omega (arith, sym (length-drop p bytes) ∙ ap length e);
        is = ap (at bytes) (sym (add-zero p)) ∙ sym (get_or-drop p bytes 0 0) ∙ ap (λ (l : List ℕ). at l 0) e;
        rest = sym (drop-drop 1 p bytes) ∙ ap (drop 1) e;
      }

  byte_is : (p q : ℕ) (go_on : ℕ → Read ℕ) {x : ℕ} {l : List ℕ} → Stands q x l → byte bytes p q go_on ≡ go_on x
  unfolding byte
  byte_is p q go_on s = rw (lt-ltb q (length bytes) s.inside) (ap go_on s.is)

  ended_is : (p group value next : ℕ) → 0 < group → ended p group value next ≡ got value next
  unfolding ended
  ended_is p group value next h = rw (ne_eqb group 0 (λ e. omega arith))

  -- A number of one group, of two, of three.
  pub number_one : (p : ℕ) {a : ℕ} {l : List ℕ} → Stands p a l → a < 128 → number bytes p ≡ got a (p + 1)
  unfolding number
  number_one p {a} s h = byte_is p p _ s ∙ rw (lt-ltb a 128 h)

  pub number_two : (p : ℕ) {a b : ℕ} {k l : List ℕ} → Stands p a k → 128 ≤ a → Stands (p + 1) b l → b < 128 → 0 < b → number bytes p ≡ got (a - 128 + 128 * b) (p + 2)
  unfolding number
  number_two p {a} {b} s h t g o = byte_is p p _ s ∙ rw (le-ltb a 128 h) (byte_is p (p + 1) _ t ∙ rw (lt-ltb b 128 g) (ended_is p b (a - 128 + 128 * b) (p + 2) o))

  number_three : (p : ℕ) {a b c : ℕ} {k l j : List ℕ} → Stands p a k → 128 ≤ a → Stands (p + 1) b l → 128 ≤ b → Stands (p + 2) c j → c < 128 → 0 < c
      → number bytes p ≡ got (a - 128 + 128 * (b - 128) + 16384 * c) (p + 3)
  unfolding number
  number_three p {a} {b} {c} s h t g u f o =
      byte_is p p _ s
      ∙ rw (le-ltb a 128 h) (byte_is p (p + 1) _ t
      ∙ rw (le-ltb b 128 g) (byte_is p (p + 2) _ u
      ∙ rw (lt-ltb c 128 f) (ended_is p c (a - 128 + 128 * (b - 128) + 16384 * c) (p + 3) o)))

  pub number_written : (p v : ℕ) (l : List ℕ) → v ≤ max_number → drop p bytes ≡ groups v ++ l → number bytes p ≡ got v (p + length (groups v))
  number_written p v l few e = go (dec_lt v 128) (dec_lt v 16384)
    where
      go : Dec (v < 128) → Dec (v < 16384) → number bytes p ≡ got v (p + length (groups v))
      go (yes h) k =
          let z = groups_one v h in
          let s = stands p v l (e ∙ ap (λ (g : List ℕ). g ++ l) z) in
          number_one p s h ∙ ap (λ (g : List ℕ). got v (p + length g)) (sym z)
      go (no h) (yes k) =
          let z = groups_two v (omega arith) k in
          let s = stands p (128 + v % 128) ((v / 128) ∷ l) (e ∙ ap (λ (g : List ℕ). g ++ l) z) in
          let t = stands (p + 1) (v / 128) l s.rest in
          number_two p s (omega arith) t (omega arith) (omega arith)
          ∙ ap (λ (n : ℕ). got n (p + 2)) (omega arith)
          ∙ ap (λ (g : List ℕ). got v (p + length g)) (sym z)
      go (no h) (no k) =
          let z = groups_three v (omega arith) in
          let s = stands p (128 + v % 128) ((128 + v / 128 % 128) ∷ (v / 16384) ∷ l) (e ∙ ap (λ (g : List ℕ). g ++ l) z) in
          let t = stands (p + 1) (128 + v / 128 % 128) ((v / 16384) ∷ l) s.rest in
          let on : p + 2 ≡ p + 1 + 1 = omega arith in
          let u = stands (p + 2) (v / 16384) l (ap (λ (n : ℕ). drop n bytes) on ∙ t.rest) in
          number_three p s (omega arith) t (omega arith) u (omega arith) (omega arith)
          ∙ ap (λ (n : ℕ). got n (p + 3)) (omega arith)
          ∙ ap (λ (g : List ℕ). got v (p + length g)) (sym z)

  -- ---- And back

  from_here : (p : ℕ) → p < length bytes → drop p bytes ≡ at bytes p ∷ drop (p + 1) bytes
  from_here p h = rw add-one (drop-cons bytes p 0 h)

  byte_got : (p q : ℕ) (go_on : ℕ → Read ℕ) {v next : ℕ} → byte bytes p q go_on ≡ got v next → (q < length bytes) × (go_on (at bytes q) ≡ got v next)
  unfolding byte
  byte_got p q go_on e = let t = passed (ltb q (length bytes)) (go_on (at bytes q)) 9 p e in (ltb-true q (length bytes) t.0, t.1)

  ended_got : (p group value end : ℕ) {v next : ℕ} → ended p group value end ≡ got v next → (0 < group) × (got value end ≡ got v next)
  unfolding ended
  ended_got p group value end {v} {next} e = go (eqb group 0) refl e
    where
      go : (b : Bool) → eqb group 0 ≡ b → cond b (bad 10 p) (got value end) ≡ got v next → (0 < group) × (got value end ≡ got v next)
      go true z e = not_got e
      go false z e = let w = eqb-false group 0 z in (omega (arith, w), e)

  -- A number that was read: the bytes go on with its groups.
  pub record NumberGot (p v next : ℕ) : Type 0 where
    pub few : v ≤ max_number
    pub on : drop p bytes ≡ groups v ++ drop next bytes

  module _ (p : ℕ) where
    abbrev a : ℕ
    a = at bytes p

    abbrev b : ℕ
    b = at bytes (p + 1)

    abbrev c : ℕ
    c = at bytes (p + 2)

    abbrev third : ℕ → Read ℕ
    third c = cond (ltb c 128) (ended p c (a - 128 + 128 * (b - 128) + 16384 * c) (p + 3)) (bad 10 p)

    abbrev second : ℕ → Read ℕ
    second b = cond (ltb b 128) (ended p b (a - 128 + 128 * b) (p + 2)) (byte bytes p (p + 2) (λ c. cond (ltb c 128) (ended p c (a - 128 + 128 * (b - 128) + 16384 * c) (p + 3)) (bad 10 p)))

    module _ (B : Bytes bytes) {v next : ℕ} where
      -- The groups of the number are the bytes that were read.
      one_read : p < length bytes → a < 128 → got a (p + 1) ≡ got v next → NumberGot p v next
      one_read h k e =
          let w = thing_same e in
          record {
            few = omega arith;
            on = from_here p h ∙ ap₂ (λ (g l : List ℕ). g ++ l) (sym (groups_one a k) ∙ ap groups w) (ap (λ (n : ℕ). drop n bytes) (next_same e));
          }

      two_read : p < length bytes → 128 ≤ a → p + 1 < length bytes → b < 128 → 0 < b → got (a - 128 + 128 * b) (p + 2) ≡ got v next → NumberGot p v next
      two_read h k i f o e =
          let w = thing_same e in
          let n = next_same e in
          let x : a ≡ 128 + v % 128 = omega (arith, B p h) in
          let y : b ≡ v / 128 = omega (arith, B p h) in
          let z : p + 1 + 1 ≡ next = omega arith in
          record {
            few = omega (arith, B p h);
            on =
                from_here p h
                ∙ ap₂ (λ (g : ℕ) (l : List ℕ). g ∷ l) x (from_here (p + 1) i ∙ ap₂ (λ (g : ℕ) (l : List ℕ). g ∷ l) y (ap (λ (n : ℕ). drop n bytes) z))
                ∙ ap (λ (g : List ℕ). g ++ drop next bytes) (sym (groups_two v (omega (arith, B p h)) (omega (arith, B p h))));
          }

      three_read : p < length bytes → 128 ≤ a → p + 1 < length bytes → 128 ≤ b → p + 2 < length bytes → c < 128 → 0 < c
          → got (a - 128 + 128 * (b - 128) + 16384 * c) (p + 3) ≡ got v next → NumberGot p v next
      three_read h k i f j g o e =
          let w = thing_same e in
          let n = next_same e in
          let x : a ≡ 128 + v % 128 = omega (arith, B p h, B (p + 1) i) in
          let d : v / 128 ≡ b - 128 + 128 * c = omega (arith, B p h, B (p + 1) i) in
          let y : b ≡ 128 + v / 128 % 128 = omega (arith, ap (λ (n : ℕ). n % 128) d, low_group (b - 128) c (omega (arith, B (p + 1) i))) in
          let q : c ≡ v / 16384 = omega (arith, B p h, B (p + 1) i) in
          let on : p + 1 + 1 ≡ p + 2 = omega arith in
          let z : p + 2 + 1 ≡ next = omega arith in
          record {
            few = omega (arith, B p h, B (p + 1) i);
            on =
                from_here p h
                ∙ ap₂ (λ (g : ℕ) (l : List ℕ). g ∷ l) x (from_here (p + 1) i
                ∙ ap₂ (λ (g : ℕ) (l : List ℕ). g ∷ l) y (ap (λ (n : ℕ). drop n bytes) on ∙ from_here (p + 2) j
                ∙ ap₂ (λ (g : ℕ) (l : List ℕ). g ∷ l) q (ap (λ (n : ℕ). drop n bytes) z)))
                ∙ ap (λ (g : List ℕ). g ++ drop next bytes) (sym (groups_three v (omega (arith, B p h, B (p + 1) i))));
          }

      from_third : p < length bytes → 128 ≤ a → p + 1 < length bytes → 128 ≤ b → p + 2 < length bytes → (t : Bool) → ltb c 128 ≡ t
          → cond t (ended p c (a - 128 + 128 * (b - 128) + 16384 * c) (p + 3)) (bad 10 p) ≡ got v next → NumberGot p v next
      from_third h k i f j true t e = let d = ended_got p c (a - 128 + 128 * (b - 128) + 16384 * c) (p + 3) e in three_read h k i f j (ltb-true c 128 t) d.0 d.1
      from_third h k i f j false t e = not_got e

      from_second : p < length bytes → 128 ≤ a → p + 1 < length bytes → (t : Bool) → ltb b 128 ≡ t
          → cond t (ended p b (a - 128 + 128 * b) (p + 2)) (byte bytes p (p + 2) third) ≡ got v next → NumberGot p v next
      from_second h k i true t e = let d = ended_got p b (a - 128 + 128 * b) (p + 2) e in two_read h k i (ltb-true b 128 t) d.0 d.1
      from_second h k i false t e = let d = byte_got p (p + 2) third e in from_third h k i (ltb-false b 128 t) d.0 (ltb c 128) refl d.1

      from_first : p < length bytes → (t : Bool) → ltb a 128 ≡ t → cond t (got a (p + 1)) (byte bytes p (p + 1) second) ≡ got v next → NumberGot p v next
      from_first h true t e = one_read h (ltb-true a 128 t) e
      from_first h false t e = let d = byte_got p (p + 1) second e in from_second h (ltb-false a 128 t) d.0 (ltb b 128) refl d.1

      pub number_read : number bytes p ≡ got v next → NumberGot p v next
      unfolding number
      number_read e = let d = byte_got p p _ e in from_first d.0 (ltb a 128) refl d.1
