-- `audit_line::line` meets its contract.
use native.Mathlib.Omega.{arith}
use Rattle.decimal.proofs.Laid.{puts_none}
use Rattle.audit_line.proofs.Lines.{passes-put, faulty-put}
use Rattle.audit_line.proofs.line.Goals as goal

pub returns-then-out-at : goal.returns-then-out-at
returns-then-out-at c = puts_none (omega arith)

pub returns-then-out-at-lt-VERDICT : goal.returns-then-out-at-lt-VERDICT
returns-then-out-at-lt-VERDICT c = puts_none (omega arith)

pub returns-in-Passes : goal.returns-in-Passes
returns-in-Passes c = passes-put c.in-Passes.is (omega arith) c.put.ensures

pub returns-in-Faulty : goal.returns-in-Faulty
returns-in-Faulty c = faulty-put c.in-Faulty.is (omega arith) c.faulty.ensures
