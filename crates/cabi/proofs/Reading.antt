-- A replacement's reply is read off what C has: no two answers go by one number. Rests on `pattern`, `register`, `judge` and
-- `replace`.
use mathlib.Core.Bool.{cond}
use mathlib.Core.List.{List}
use mathlib.Core.Path.{◌≡◌, refl, sym, ap, ◌∙◌, subst}
use Prim.Native.Nat.{ℕ}
use lib.Dec.{eqb, ltb}
use Rattle.pattern.specs.Verdict.{Verdict, Singular, Permuted, Elimination}
use Rattle.pattern.proofs.Rungs.{unless_both}
use Rattle.register.specs.Lent.{Lists}
use Rattle.judge.specs.Call.{Call}
use Rattle.replace.specs.Replace.{Outcome, outcome, after, Replaces}
use Rattle.replace.specs.Reply.{Answer, REFUSED, SINGULAR, PERMUTED, ELIMINATION, Reply}
use Rattle.cabi.specs.Code.{code}
use Rattle.cabi.specs.Replace.{Gives}

-- The answer that goes by a number.
unfoldable pub answer_of : ℕ → Answer
answer_of n = cond (ltb n 100) (REFUSED n) (cond (eqb n 100) SINGULAR (cond (eqb n 101) PERMUTED ELIMINATION))

abbrev pub told : (answer : Answer) (bump eta_count : ℕ) → Reply
told answer bump eta_count = record { answer = answer; bump = bump; eta_count = eta_count }

abbrev ReadBack : Outcome → Type 0
ReadBack o = answer_of (code o.reply.answer) ≡ o.reply.answer

module _ (a : Call) where
  verdict_back : (v : Verdict) → ReadBack (after a v)
  unfolding answer_of
  verdict_back Singular = refl
  verdict_back (Permuted rows cols) = refl
  verdict_back (Elimination rows cols bump eta) = refl

  -- Refusals have the numbers 1 to 8, which are no verdict's.
  read_back : {o : Outcome} → Replaces a o → ReadBack o
  unfolding answer_of
  read_back =
      unless_both ReadBack refl (λ p.
      unless_both ReadBack refl (λ q.
      unless_both ReadBack refl (λ f.
      unless_both ReadBack refl (λ g.
      unless_both ReadBack refl (λ t.
      unless_both ReadBack refl (λ c.
      unless_both ReadBack refl (λ n.
      unless_both ReadBack refl (λ w x. subst ReadBack (sym x.2) (verdict_back x.0)))))))))

  -- The right reply, from the result, the bump and the eta count.
  pub read_off : (n b k : ℕ) (l : Lists) (e : List ℕ) → Gives a n b k l e → Replaces a (outcome (told (answer_of n) b k) l e)
  read_off n b k l e g =
      let r = g.reply in
      let same : told r.answer r.bump r.eta_count ≡ told (answer_of n) b k =
      cc (sym (read_back g.right) ∙ ap answer_of (sym g.its_answer), g.its_bump, g.its_eta_count) in
      subst (λ (x : Reply). Replaces a (outcome x l e)) same g.right
