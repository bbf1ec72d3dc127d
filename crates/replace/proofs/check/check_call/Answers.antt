-- `check_call`: where no check of the register refuses, the new column decides.
use native.Mathlib.Omega.{arith}
use Rattle.register.specs.Loan.{seen}
use Rattle.register.proofs.Soundness.{fault_none}
use Rattle.judge.specs.Call.{call}
use Rattle.replace.proofs.Calls.{column_fault}
use Rattle.replace.proofs.check.check_call.Goals as goal

pub returns-clause-call_fault : goal.returns-clause-call_fault
returns-clause-call_fault c =
    let l = seen c.args.lists in
    column_fault (call c.args.m l c.args.c c.args.new.now c.args.eta.now) (fault_none c.args.m l c.in_ok-check.ensures.first_fault) (omega arith) c.column_fault.ensures
