-- No two outcomes satisfy the contract of the judgment, as its source states it. Rests on specs/Judge.antt, Asked.antt, `pattern` and
-- `listing`.
use mathlib.Core.List.{List}
use mathlib.Core.Path.{◌≡◌, subst}
use Prim.Native.Nat.{ℕ}
use Rattle.pattern.specs.Verdict.{Verdict, Singular, Permuted, Elimination}
use Rattle.pattern.proofs.Verdicts.{judged_unique}
use Rattle.listing.specs.Contract.{DeterminedAs}
use Rattle.listing.proofs.Determined.{same}
use Rattle.judge.specs.Call.{Call, asked}
use Rattle.judge.specs.Judge.{Judgeable, Tells, Judges}
use Rattle.judge.specs.declared.Judgment.{Judgment}
use Rattle.judge.proofs.Asked.{call_judged}
use Rattle.judge.proofs.judge.judge.Kinds as judge-kinds
use Rattle.judge.proofs.judge.judge.Reads as judge

judges_one : (a : Call) (rows cols eta rows' cols' eta' : List ℕ) (j j' : Judgment) → Judgeable a
    → Judges a rows cols eta j → Judges a rows' cols' eta' j' → (j ≡ j') × (eta ≡ eta')
judges_one a rows cols eta rows' cols' eta' j j' J p q =
    go p.verdict p.tells (subst (Tells a rows' cols' eta' j') (judged_unique (asked a) (call_judged J) q.verdict p.verdict q.right p.right) q.tells)
  where
    go : (v : Verdict) → Tells a rows cols eta j v → Tells a rows' cols' eta' j' v → (j ≡ j') × (eta ≡ eta')
    go Singular t u = (same t.0 u.0, same t.1 u.1)
    go (Permuted rs cs) t u = (same t.0 u.0, same t.1 u.1)
    go (Elimination rs cs b e) t u = (same t.0 u.0, same t.1 u.1)

-- The judgment and the eta list are told. The scratch lists have the places of PERMUTED's order, and else nothing that is told.
pub judge_determined : DeterminedAs judge-kinds.ps judge-kinds.r judge.Pre judge.Post (λ κs x. x) (λ κs a ws. ws.1.1.1.1.1.1.0)
judge_determined κs a h x y ws vs p q = judges_one _ _ _ _ _ _ _ x y h.0.0 p q
