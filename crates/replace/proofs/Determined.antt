-- A replacement has one right outcome. Rests on `pattern`, `register` and `judge`.
use mathlib.Core.List.{List}
use mathlib.Core.Path.{◌≡◌, refl, sym, ap, ◌∙◌}
use Prim.Native.Nat.{ℕ}
use Rattle.std.specs.Prelude.{Result, Ok, Err}
use Rattle.pattern.proofs.Rungs.{unless_one}
use Rattle.pattern.proofs.Verdicts.{judged_unique}
use Rattle.register.specs.Lent.{Lists}
use Rattle.register.specs.declared.Refusal.{Refusal}
use Rattle.register.proofs.Determined.{reply_of, reply_back}
use Rattle.judge.specs.Call.{Call, asked}
use Rattle.judge.specs.declared.Judgment.{Judgment}
use Rattle.judge.specs.declared.Judgment.TheVariants.{Singular, Permuted, Elimination}
use Rattle.judge.proofs.Asked.{call_judged}
use Rattle.replace.specs.Replace.{Outcome, outcome, after, Replaces}
use Rattle.replace.specs.Reply.{Answer, REFUSED, SINGULAR, PERMUTED, ELIMINATION, Reply, reply}

-- What was refused with a number, and what is said by a reply.
refused_by : Result Unit Refusal → Result Judgment Refusal
refused_by (Ok x) = Ok Singular
refused_by (Err r) = Err r

said_by : (bump eta_count : ℕ) → Answer → Result Judgment Refusal
said_by b n (REFUSED k) = refused_by (reply_of k)
said_by b n SINGULAR = Ok Singular
said_by b n PERMUTED = Ok Permuted
said_by b n ELIMINATION = Ok (Elimination b n)

replied_by : Reply → Result Judgment Refusal
replied_by r = said_by r.bump r.eta_count r.answer

replied_back : (r : Result Judgment Refusal) → replied_by (reply r) ≡ r
unfolding replied_by said_by refused_by
replied_back (Err r) = ap refused_by (reply_back (Err r))
replied_back (Ok Singular) = refl
replied_back (Ok Permuted) = refl
replied_back (Ok (Elimination b n)) = refl

-- A call has one right outcome.
pub outcome_one : (a : Call) (o o' : Outcome) → Replaces a o → Replaces a o' → o ≡ o'
outcome_one a =
    unless_one (λ p.
    unless_one (λ q.
    unless_one (λ f.
    unless_one (λ s.
    unless_one (λ t.
    unless_one (λ c.
    unless_one (λ n.
    unless_one (λ w o o' x y.
    let j = call_judged {a = a} (record { sound = record { sized = p; long = q.0; formed = f; agree = s; order = t }; column_below = c; new_rise = n }) in
    x.2 ∙ ap (after a) (judged_unique (asked a) j x.0 y.0 x.1 y.1) ∙ sym y.2))))))))

pub replace_determined : (a : Call) (r r' : Result Judgment Refusal) (l l' : Lists) (e e' : List ℕ) → Replaces a (outcome (reply r) l e) → Replaces a (outcome (reply r') l' e')
    → (r ≡ r') × (l ≡ l') × (e ≡ e')
replace_determined a r r' l l' e e' f f' =
    let o = outcome_one a (outcome (reply r) l e) (outcome (reply r') l' e') f f' in
    (sym (replied_back r) ∙ ap (λ (x : Outcome). replied_by x.reply) o ∙ replied_back r', ap (λ (x : Outcome). x.lists) o, ap (λ (x : Outcome). x.eta) o)
