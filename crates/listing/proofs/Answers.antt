-- The two answers of a test. Rests on specs/Says.antt.
use Rattle.std.proofs.lemmas.Bool.{false≢true}
use Rattle.std.specs.Bool.{Decides}
use mathlib.Core.Bool.{Bool, true, false, not}
use mathlib.Core.Path.{◌≡◌, refl, sym, ◌∙◌}
use Prim.Native.Nat.{ℕ, ◌<◌}
use native.Mathlib.Omega.{arith}
use lib.Dec.{ltb}
use borrow.Author.Tests.{not-true, not-false, ltb-true, ltb-false}
use Rattle.listing.specs.Says.{Told, Says}

module _ {P Q : Type 0} where
  pub told_yes : P → Told true P Q
  told_yes p = record { yes = λ e. p; no = λ e. let z : ◌≡◌ {A = ℕ} 0 1 = cc in absurd (omega arith) }

  pub told_no : Q → Told false P Q
  told_no q = record { yes = λ e. let z : ◌≡◌ {A = ℕ} 0 1 = cc in absurd (omega arith); no = λ e. q }

  -- In the two arms of `if !test(..)`.
  pub refuted : {r : Bool} → Told r P Q → r ≡ false → Q
  refuted s e = s.no e

  pub shown : {r : Bool} → Told r P Q → r ≡ true → P
  shown s e = s.yes e

  -- The opposite answer.
  pub told_not : {r : Bool} → Told r P Q → Told (not r) Q P
  told_not {r} s = record { yes = λ e. refuted s (not-true r e); no = λ e. shown s (not-false r e) }

-- A test that decides.
pub told_decides : {P : Type 0} {r : Bool} → Decides r P → Says r P
told_decides d = record { yes = d.0; no = λ e p. false≢true (sym e ∙ d.1 p) }

-- An answer in other words.
pub told_as : {P P' Q Q' : Type 0} {r : Bool} → (P → P') → (Q → Q') → Told r P Q → Told r P' Q'
told_as f g s = record { yes = λ e. f (s.yes e); no = λ e. g (s.no e) }

-- An answer about what comes to the same.
pub says_as : {P Q : Type 0} {r : Bool} → (P → Q) → (Q → P) → Says r P → Says r Q
says_as f g s = record { yes = λ e. f (s.yes e); no = λ e q. s.no e (g q) }

-- An answer that compares two numbers.
pub says_less : {P : Type 0} (a b : ℕ) → (a < b → P) → (P → a < b) → Says (ltb a b) P
says_less a b f g = record { yes = λ e. f (ltb-true a b e); no = λ e p. omega (arith, ltb-false a b e, g p) }

-- ---- Two answers

module _ {P : Type 0} where
  pub says_true : (b : Bool) → Says b P → P → b ≡ true
  says_true true s p = refl
  says_true false s p = absurd (s.no refl p)

  pub says_false : (b : Bool) → Says b P → ¬ P → b ≡ false
  says_false true s n = absurd (n (s.yes refl))
  says_false false s n = refl

  -- Two answers to one question.
  pub says_same : (a b : Bool) → Says a P → Says b P → a ≡ b
  says_same true b s t = sym (says_true b t (s.yes refl))
  says_same false b s t = sym (says_false b t (s.no refl))
