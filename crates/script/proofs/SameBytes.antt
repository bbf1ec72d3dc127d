-- A byte makes of runs that stand alike runs that stand alike, and prints the same for both. Rests on SameLines.antt,
-- Heads.antt and Roominess.antt.
use mathlib.Core.Bool.{Bool, true, false}
use mathlib.Core.List.{List, [], ◌∷◌, ◌++◌}
use mathlib.Core.Path.{◌≡◌, refl, sym, ap, subst, ◌∙◌}
use Prim.Native.Nat.{ℕ, ◌≤◌, ◌<◌}
use native.Mathlib.Omega.{arith}
use lib.Dec.{eqb}
use borrow.Author.Tests.{eqb-false}
use Rattle.text.specs.Text.{LF, max_line}
use Rattle.turns.specs.Turns.{Lent, Run, run, After}
use Rattle.turns.specs.declared.State.{State}
use Rattle.script.specs.Feed.{TurnRight}
use Rattle.script.specs.Tryout.{has_ended, longer, ByteDoes, Byte}
use Rattle.script.proofs.Heads.{set_head}
use Rattle.script.proofs.Roominess.{roomy_byte}
use Rattle.script.proofs.SameLines.{line_agree}
use Rattle.script.proofs.SameRuns.{RunsAgree, AftersAgree, so_agree, bad_agree}

module _ {s : State} {l l' : Lent} (A : RunsAgree (run s l) (run s l')) (right : TurnRight s.turn) (short : s.used ≤ max_line) where
  longer_agree : (b : ℕ) → s.used < max_line → RunsAgree (longer (run s l) b) (longer (run s l') b)
  longer_agree b h =
      record {
        same_state = refl;
        same_line =
            set_head s.used b l.line (omega (arith, A.roomy.line))
            ∙ ap (λ (line : List ℕ). line ++ (b ∷ [])) A.same_line
            ∙ sym (set_head s.used b l'.line (omega (arith, A.roomy'.line)));
        roomy = roomy_byte A.roomy s.used b;
        roomy' = roomy_byte A.roomy' s.used b;
        lists = A.lists;
      }

  byte_does_agree : (ended lf full : Bool) → eqb s.used max_line ≡ full → (b : ℕ) {a a' : After} → ByteDoes ended lf full (run s l) b a
      → ByteDoes ended lf full (run s l') b a' → AftersAgree a a'
  byte_does_agree true lf full e b = so_agree (record { runs = A; same_said = refl })
  byte_does_agree false true full e b = line_agree A s.turn right A.lists
  byte_does_agree false false true e b = so_agree (bad_agree A)
  byte_does_agree false false false e b =
      let n = eqb-false s.used max_line e in
      so_agree (record { runs = longer_agree b (omega arith); same_said = refl })

pub byte_agree : {r r' : Run} {a a' : After} (b : ℕ) → RunsAgree r r' → TurnRight r.state.turn → r.state.used ≤ max_line → Byte r b a → Byte r' b a' → AftersAgree a a'
byte_agree {r} {r'} {a} {a'} b A right short d d' =
    let s = r.state in
    byte_does_agree (subst (λ (s : State). RunsAgree r (run s r'.lent)) (sym A.same_state) A) right short (has_ended s) (eqb b LF) (eqb s.used max_line) refl b d
    (subst (λ (s : State). Byte (run s r'.lent) b a') (sym A.same_state) d')
