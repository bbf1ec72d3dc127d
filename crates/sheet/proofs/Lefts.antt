-- What a pass knows that reads a series again: after `j` things of it, what is left is the rest. Rests on Readings.antt.
use mathlib.Core.List.{List, [], ◌∷◌}
use mathlib.Core.Path.{◌≡◌, sym, ap, ◌∙◌}
use Prim.Native.Nat.{ℕ, suc, ◌+◌, ◌-◌, ◌≤◌, ◌<◌}
use native.Mathlib.Nat.{sub-zero}
use native.Mathlib.Numerals.{add-one}
use native.Mathlib.Omega.{arith}
use lib.ListN.{length, drop, get_or}
use lib.Seq.{drop-cons}
use Rattle.sheet.specs.Number.{Read, got}
use Rattle.sheet.specs.Passes.{thing, Got}
use Rattle.sheet.specs.Reading.{many}
use Rattle.sheet.proofs.Readings.{next_same, Split, many_next, many_length}

-- ---- What was got

-- A reading that is known not to be refused.
pub got_is : {A : Type 0} (other : A) {r : Read A} {x : A} {next : ℕ} → r ≡ got x next → Got other r
unfolding thing
got_is {A} other {r} {x} {next} e = record { next = next; read = e ∙ ap (λ (y : A). got y next) (sym (ap (thing other) e)) }

pub thing_is : {A : Type 0} (other : A) {r : Read A} {x : A} {next : ℕ} → r ≡ got x next → thing other r ≡ x
unfolding thing
thing_is other e = ap (thing other) e

-- ---- What is left

module _ {A : Type 0} (one : ℕ → ℕ → Read A) (after : ℕ → A → ℕ) (n place : ℕ) (L : List A) where
  -- The `n` things from `place` on are `L`; after `j` of them the pass has come to `p`, and knows `s`.
  pub record Left (j s p : ℕ) : Type 0 where
    pub end : ℕ
    pub upto : j ≤ n
    pub whole : many one after n 0 place ≡ got L end
    pub rest : many one after (n - j) s p ≡ got (drop j L) end

  -- The next thing, and what is left then.
  pub record Next (d : A) (j s p : ℕ) : Type 0 where
    pub middle : ℕ
    pub read : one s p ≡ got (get_or L j d) middle
    pub left : Left (j + 1) (after s (get_or L j d)) middle

module _ {A : Type 0} {one : ℕ → ℕ → Read A} {after : ℕ → A → ℕ} {n place : ℕ} where
  pub left_none : (g : Got [] (many one after n 0 place)) → Left one after n place (thing [] (many one after n 0 place)) 0 0 place
  left_none g = record { end = g.next; upto = omega arith; whole = g.read; rest = rw sub-zero g.read }

  module _ {L : List A} {j s p : ℕ} (l : Left one after n place L j s p) where
    pub left_long : length L ≡ n
    left_long = many_length one after n 0 place l.whole

    pub left_next : (d : A) → j < n → Next one after n place L d j s p
    left_next d h = next (many_next one after (n - (j + 1)) s p (rw one_less at l.rest))
      where
        one_less : n - j ≡ suc (n - (j + 1))
        one_less = omega arith

        next : Split one after (n - (j + 1)) s p (drop j L) l.end → Next one after n place L d j s p
        next b =
            let split : b.first ∷ b.rest ≡ get_or L j d ∷ drop (suc j) L = sym b.is ∙ drop-cons L j d (omega (arith, left_long)) in
            let first : b.first ≡ get_or L j d = cc split in
            let rest : b.rest ≡ drop (suc j) L = cc split in
            record {
              middle = b.middle;
              read = b.first_got ∙ ap (λ (x : A). got x b.middle) first;
              left =
                  record {
                    end = l.end;
                    upto = omega arith;
                    whole = l.whole;
                    rest =
                        ap (λ (x : A). many one after (n - (j + 1)) (after s x) b.middle) (sym first)
                        ∙ b.rest_got
                        ∙ ap (λ (k : List A). got k l.end) (rest ∙ ap (λ (i : ℕ). drop i L) (sym (add-one j)));
                  };
            }

    pub left_all : j ≡ n → many one after n 0 place ≡ got L p
    unfolding many
    left_all e =
        let z : n - j ≡ 0 = omega arith in
        l.whole ∙ ap (got L) (sym (next_same (rw z at l.rest)))
