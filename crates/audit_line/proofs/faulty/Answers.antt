-- `audit_line::faulty` meets its contract.
use native.Mathlib.Omega.{arith}
use Rattle.audit_line.proofs.Lines.{row_near, reason_near, faulty-laid}
use Rattle.audit_line.proofs.faulty.Goals as goal

pub overflow_add-next : goal.overflow_add-next
overflow_add-next c =
    omega (arith, row_near c.args.at c.args.row (omega (arith, c.requires, c.put.auto.out)) c.number-next.ensures, c.requires)

pub words-requires : goal.words-requires
words-requires c =
    let room₁ = c.put.auto.out in
    let room₂ = c.number-next.auto.out in
    let room₃ = c.put-2.auto.out in
    let near = row_near c.args.at c.args.row (omega (arith, c.requires, room₁)) c.number-next.ensures in
    let last = reason_near c.args.at c.args.reason (omega (arith, c.requires, room₁, room₂, room₃)) near c.number-last.ensures in
    omega (arith, last, c.requires, room₁, room₂, room₃, c.number-last.auto.out)

pub returns : goal.returns
returns c =
    faulty-laid c.args.reason c.args.row c.requires c.put.auto.out c.number-next.auto.out c.put-2.auto.out
    c.put.ensures c.number-next.ensures c.put-2.ensures c.number-last.ensures c.words.ensures
