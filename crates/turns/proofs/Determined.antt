-- No two outcomes satisfy the contract of a function for the crates above, as its source states it. Rests on specs/Steps.antt,
-- OneLine.antt, `listing` and `text`.
use mathlib.Core.List.{List, []}
use mathlib.Core.Path.{◌≡◌, refl, sym, ap, subst}
use Prim.Native.Nat.{ℕ}
use Rattle.listing.specs.Contract.{Determined, DeterminedAs}
use Rattle.listing.proofs.Determined.{same}
use Rattle.text.specs.Prints.{Prints}
use Rattle.text.specs.declared.output.Output.{Output}
use Rattle.text.proofs.Determined.{printed, prints_one}
use Rattle.register.specs.Lent.{lists}
use Rattle.register.specs.Loan.{held}
use Rattle.turns.specs.Steps.{Makes}
use Rattle.turns.specs.Turns.{Lent, lent, Run, After}
use Rattle.turns.specs.declared.Turn.TheVariants as turn
use Rattle.turns.proofs.OneLine.{One, line_one}
use Rattle.turns.proofs.steps.next_line.Kinds as next-line-kinds
use Rattle.turns.proofs.steps.next_line.Reads as next_line
use Rattle.turns.proofs.steps.bad.Kinds as bad-kinds
use Rattle.turns.proofs.steps.bad.Reads as bad
use Rattle.turns.proofs.steps.refuse.Kinds as refuse-kinds
use Rattle.turns.proofs.steps.refuse.Reads as refuse
use Rattle.turns.proofs.order_turn.order_line.Kinds as order-line-kinds
use Rattle.turns.proofs.order_turn.order_line.Reads as order-line
use Rattle.turns.proofs.col_turn.col_line.Kinds as col-line-kinds
use Rattle.turns.proofs.col_turn.col_line.Reads as col-line
use Rattle.turns.proofs.put_turn.put_line.Kinds as put-line-kinds
use Rattle.turns.proofs.put_turn.put_line.Reads as put-line

-- ---- How a run goes on and ends

pub next_line_determined : Determined next-line-kinds.ps next-line-kinds.r next_line.Pre next_line.Post
next_line_determined κs a h x y ws vs p q = (same p q, refl)

pub bad_determined : DeterminedAs bad-kinds.ps bad-kinds.r bad.Pre bad.Post (λ κs s. s) (λ κs a ws. printed ws.1.0)
bad_determined κs a h x y ws vs p q = (same p.0 q.0, prints_one p.1 q.1)

pub refuse_determined : DeterminedAs refuse-kinds.ps refuse-kinds.r refuse.Pre refuse.Post (λ κs s. s) (λ κs a ws. printed ws.1.1.0)
refuse_determined κs a h x y ws vs p q = (same p.0 q.0, prints_one p.1 q.1)

-- ---- Lines

-- What is made of a run where one thing at most comes of it: the run, and what is seen of the output.
makes_one : {Does : After → Type 0} {out o o' : Output} {r r' : Run} → One Does → Makes Does out r o → Makes Does out r' o' → (r ≡ r') × (printed o ≡ printed o')
makes_one {out = out} {o' = o'} one p q =
    let e = one _ _ p.does q.does in
    (ap (λ (a : After). a.run) e, prints_one p.prints (subst (λ (l : List ℕ). Prints l out o') (sym (ap (λ (a : After). a.said) e)) q.prints))

-- What is seen of an output, and of the lists that a line changes.
abbrev left : Output → Lent → (ℕ × List ℕ) × Lent
left out l = (printed out, l)

pub order_line_determined : DeterminedAs order-line-kinds.ps order-line-kinds.r order-line.Pre order-line.Post (λ κs s. s)
    (λ κs a ws. left ws.1.1.1.0 (lent (lists ws.1.1.0 [] [] [] [] []) [] [] []))
order_line_determined κs a h x y ws vs p q =
    let o = makes_one (line_one turn.Order _) (p [] [] [] [] [] [] []) (q [] [] [] [] [] [] []) in
    (λ i. (o.0 i).state, λ i. (o.1 i, lent (lists (o.0 i).lent.lists.col_starts [] [] [] [] []) [] [] []))

pub col_line_determined : DeterminedAs col-line-kinds.ps col-line-kinds.r col-line.Pre col-line.Post (λ κs s. s)
    (λ κs a ws. let l = ws.1.1.1.1.1 in left l.1.1.0 (lent (held l.1.0) [] l.0 []))
col_line_determined κs a h x y ws vs p q =
    let o = makes_one (line_one (turn.Column a.1.0 a.1.1.0 a.1.1.1.0) _) (p.1 []) (q.1 []) in
    (λ i. (o.0 i).state, λ i. (o.1 i, lent (o.0 i).lent.lists [] (o.0 i).lent.numbers []))

pub put_line_determined : DeterminedAs put-line-kinds.ps put-line-kinds.r put-line.Pre put-line.Post (λ κs s. s)
    (λ κs a ws. let l = ws.1.1.1 in left l.1.1.1.0 (lent (held l.1.0) l.1.1.0 l.0 []))
put_line_determined κs a h x y ws vs p q =
    let o = makes_one (line_one (turn.Put _) _) p.1 q.1 in
    (λ i. (o.0 i).state, λ i. (o.1 i, lent (o.0 i).lent.lists (o.0 i).lent.eta (o.0 i).lent.numbers []))
