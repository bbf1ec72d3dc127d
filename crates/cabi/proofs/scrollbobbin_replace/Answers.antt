-- `scrollbobbin_replace`: the register's reply, told as three numbers; the lists that it leaves are those that were lent.
use Rattle.std.proofs.Common.{rules, subst}
use Rattle.register.specs.Lent.{Lists, lists}
use Rattle.judge.specs.Call.{call}
use Rattle.replace.specs.Replace.{outcome, Replaces}
use Rattle.replace.specs.Reply.{reply}
use Rattle.cabi.proofs.scrollbobbin_replace.Goals as goal

pub returns : goal.returns
returns c =
    let a = c.args in
    let r = c.replace in
    let t = c.tell-told.ensures in
    let asked = call a.size (lists a.col_starts.now a.col_rows.now a.row_starts.now a.row_cols.now a.order_rows.now a.order_cols.now) a.column a.new_rows.now a.eta.now in
    record {
      reply = reply r.result;
      right = subst (λ (l : Lists). Replaces asked (outcome (reply r.result) l r.new.eta)) (search rules) r.ensures.replaces;
      its_answer = t.0;
      its_bump = t.1;
      its_eta_count = t.2;
    }
