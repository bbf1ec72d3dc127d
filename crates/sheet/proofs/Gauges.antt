-- What is read, by a number that is made of it; and many things so, of which some have been read. Rests on specs/Passes.antt.
use mathlib.Core.List.{List, [], ◌∷◌}
use mathlib.Core.Path.{◌≡◌, refl, sym, ap, ◌∙◌, fun_ext}
use Prim.Native.Nat.{ℕ, suc, ◌+◌, ◌-◌, ◌≤◌, ◌<◌}
use native.Mathlib.Omega.{arith}
use Rattle.sheet.specs.Number.{Read, got, bad}
use Rattle.sheet.specs.Passes.{gauged}
use Rattle.sheet.specs.Reading.{onward, many}
use Rattle.sheet.proofs.Onward.{gauged_onward}
use Rattle.sheet.proofs.Readings.{thing_same, next_same, not_got}

-- ---- One reading

-- What was read, where the number was got.
pub record Gauged {A : Type 0} (f : A → ℕ) (r : Read A) (v next : ℕ) : Type 0 where
  pub thing : A
  pub read : r ≡ got thing next
  pub gauge : f thing ≡ v

module _ {A : Type 0} (f : A → ℕ) where
  pub gauged_got : (r : Read A) {v next : ℕ} → gauged f r ≡ got v next → Gauged f r v next
  unfolding gauged onward
  gauged_got (got x k) e = record { thing = x; read = ap (got x) (next_same e); gauge = thing_same e }
  gauged_got (bad n p) e = not_got e

  pub gauged_bad : (r : Read A) {n p : ℕ} → gauged f r ≡ bad n p → r ≡ bad n p
  unfolding gauged onward
  gauged_bad (got x k) e = not_got (sym e)
  gauged_bad (bad n p) e = cc e

gauged_as : {A : Type 0} (f g : A → ℕ) → ((x : A) → f x ≡ g x) → (r : Read A) → gauged f r ≡ gauged g r
gauged_as f g e r = ap (λ (h : _). gauged h r) (fun_ext e)

-- ---- Many

module _ {A : Type 0} (one : ℕ → ℕ → Read A) (after : ℕ → A → ℕ) where
  module _ (f : List A → ℕ) where
    many_none : (s p : ℕ) → gauged f (many one after 0 s p) ≡ got (f []) p
    unfolding gauged onward many
    many_none s p = refl

    many_more : (n s p : ℕ) {x : A} {next : ℕ} → one s p ≡ got x next
        → gauged f (many one after (suc n) s p) ≡ gauged (λ l. f (x ∷ l)) (many one after n (after s x) next)
    unfolding gauged onward many
    many_more n s p {x} {next} e = rw e (gauged_onward f (many one after n (after s x) next) (λ l end. got (x ∷ l) end))

    many_fault : (n s p : ℕ) {k q : ℕ} → one s p ≡ bad k q → gauged f (many one after (suc n) s p) ≡ bad k q
    unfolding gauged onward many
    many_fault n s p e = rw e

-- Of `n` things `j` have been read, from the number `s₀` at the place `p₀` up to `s` and `p`. The gauge `w` of all comes to `k`
-- for those, and what it comes to for the others.
pub record Partly {A : Type 0} (one : ℕ → ℕ → Read A) (after : ℕ → A → ℕ) (w : List A → ℕ) (n s₀ p₀ j k s p : ℕ) : Type 0 where
  pub inside : j ≤ n
  pub rest : gauged w (many one after n s₀ p₀) ≡ gauged (λ l. k + w l) (many one after (n - j) s p)

module _ {A : Type 0} {one : ℕ → ℕ → Read A} {after : ℕ → A → ℕ} {w : List A → ℕ} {n s₀ p₀ : ℕ} where
  module _ {j k s p : ℕ} (i : Partly one after w n s₀ p₀ j k s p) where
    left : {m : ℕ} → n - j ≡ m → gauged w (many one after n s₀ p₀) ≡ gauged (λ l. k + w l) (many one after m s p)
    left e = i.rest ∙ ap (λ (m : ℕ). gauged (λ l. k + w l) (many one after m s p)) e

    -- One more is read, which adds `d`.
    pub partly_more : (d t : ℕ) {x : A} {next : ℕ} → j < n → one s p ≡ got x next → ((l : List A) → w (x ∷ l) ≡ d + w l) → after s x ≡ t
        → Partly one after w n s₀ p₀ (j + 1) (k + d) t next
    partly_more d t {x} {next} h e more f =
        record {
          inside = omega arith;
          rest =
              left (omega arith)
              ∙ many_more one after (λ l. k + w l) (n - (j + 1)) s p e
              ∙ gauged_as (λ l. k + w (x ∷ l)) (λ l. k + d + w l) (λ l. omega (arith, more l)) (many one after (n - (j + 1)) (after s x) next)
              ∙ ap (λ (s : ℕ). gauged (λ l. k + d + w l) (many one after (n - (j + 1)) s next)) f;
        }

    pub partly_fault : {r q : ℕ} → j < n → one s p ≡ bad r q → gauged w (many one after n s₀ p₀) ≡ bad r q
    partly_fault h e = left {m = suc (n - (j + 1))} (omega arith) ∙ many_fault one after (λ l. k + w l) (n - (j + 1)) s p e

    pub partly_all : (v : ℕ) → n ≤ j → k + w [] ≡ v → gauged w (many one after n s₀ p₀) ≡ got v p
    partly_all v h e = left {m = 0} (omega arith) ∙ many_none one after (λ l. k + w l) s p ∙ ap (λ (v : ℕ). got v p) e
