-- What a tryout prints depends on its text alone, not on what the lent lists held before. Rests on SameBytes.antt and
-- Steadiness.antt.
use mathlib.Core.List.{List, [], ◌∷◌, ◌++◌}
use mathlib.Core.Path.{◌≡◌, refl, sym, ap₂, ◌∙◌}
use Prim.Native.Nat.{ℕ, ◌≤◌}
use native.Mathlib.Omega.{arith}
use Rattle.text.specs.Text.{max_line}
use Rattle.turns.specs.Turns.{Lent, Run, run, begun, After}
use Rattle.turns.specs.declared.State.{State}
use Rattle.script.specs.Feed.{TurnRight, Roomy}
use Rattle.script.specs.Tryout.{Fed, closing, Tryout}
use Rattle.script.proofs.SameBytes.{byte_agree}
use Rattle.script.proofs.SameRuns.{RunsAgree, AftersAgree, so_agree}
use Rattle.script.proofs.Steadiness.{byte_stays}

-- Bytes, one after another.
fed_agree : (xs : List ℕ) (r r' : Run) (a a' : After) → RunsAgree r r' → TurnRight r.state.turn → r.state.used ≤ max_line → Fed r xs a → Fed r' xs a' → AftersAgree a a'
unfolding Fed
fed_agree [] r r' a a' A right short e e' = so_agree (record { runs = A; same_said = refl }) e e'
fed_agree (x ∷ xs) r r' a a' A right short (u, d, v, f, e) (u', d', v', f', e') =
    let B = byte_agree x A right short d d' in
    let S = byte_stays r right short x u d in
    let C = fed_agree xs u.run u'.run v v' B.runs S.turn_right S.line_short f f' in
    so_agree (record { runs = C.runs; same_said = ap₂ ◌++◌ B.same_said C.same_said }) e e'

-- Lists in which every tryout has room print the same of one text.
pub text_alone : (l l' : Lent) → Roomy l → Roomy l' → (input out out' : List ℕ) → Tryout l input out → Tryout l' input out' → out ≡ out'
text_alone l l' R R' input out out' (a, f, e) (a', f', e') =
    e ∙ ap₂ (λ (said : List ℕ) (s : State). said ++ closing s) A.same_said A.runs.same_state ∙ sym e'
  where
    A : AftersAgree a a'
    A = fed_agree input (run begun l) (run begun l') a a' (record { same_state = refl; same_line = refl; roomy = R; roomy' = R'; lists = tt }) tt (omega arith) f f'
