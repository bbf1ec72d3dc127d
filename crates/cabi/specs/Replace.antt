-- Replacement of a column as C has it: what a call gives back. Rests on Code.antt, `register`, `judge` and `replace`.
use Rattle.std.specs.Prelude.{List, ◌≡◌, ℕ}
use Rattle.register.specs.Lent.{Lists}
use Rattle.judge.specs.Call.{Call}
use Rattle.replace.specs.Replace.{outcome, Replaces}
use Rattle.replace.specs.Reply.{Reply}
use Rattle.cabi.specs.Code.{code}

-- The right reply to the call, with what it leaves in the lists: its answer as the result, its bump and its eta count in
-- the two places that are lent for them.
pub record Gives (a : Call) (result bump eta_count : ℕ) (lists : Lists) (eta : List ℕ) : Type 0 where
  pub reply : Reply
  pub right : Replaces a (outcome reply lists eta)
  pub its_answer : result ≡ code reply.answer
  pub its_bump : bump ≡ reply.bump
  pub its_eta_count : eta_count ≡ reply.eta_count
