-- `replace`: a fault is refused, and leaves the lists.
use mathlib.Core.Logic.{◌≢◌}
use mathlib.Core.Path.{◌≡◌, subst}
use Rattle.std.proofs.Common.{rules}
use Rattle.register.specs.Lent.{Lists}
use Rattle.register.specs.Reply.{fault}
use Rattle.judge.specs.Call.{call}
use Rattle.replace.specs.ReplaceChecks.{CallFault}
use Rattle.replace.specs.Reply.{reply, refused}
use Rattle.replace.proofs.Calls.{refused_call}
use Rattle.replace.proofs.replace.Goals as goal

pub returns-in_err-check_call-clause-replaces : goal.returns-in_err-check_call-clause-replaces
returns-in_err-check_call-clause-replaces c =
    let a = c.args in
    let f = subst (λ (l : Lists). CallFault (call a.size l a.column a.new_rows.now a.eta.now) (fault c.check_call.result)) c.view.ensures c.check_call.ensures.call_fault in
    let e : reply c.from_residual.result ≡ refused (fault c.check_call.result) = search rules in
    let some : fault c.check_call.result ≢ 0 = search rules in
    rw e (refused_call _ some f)
