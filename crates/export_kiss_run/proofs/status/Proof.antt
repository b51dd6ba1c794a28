-- `export_kiss_run::status` meets its contract.
use Rattle.std.proofs.Common.{refl, rules}
use Rattle.octets.proofs.Choices.{picked, passed}
use Rattle.export_kiss_run.proofs.Whole.{tested, tested_two}
use Rattle.export_kiss_run.proofs.status.Statement.{statement}
use Rattle.export_kiss_run.proofs.status.Tie as tie

returns : tie.Need-returns-then-state-failed
returns c =
    let p2 = c in
    let p4 = p2 in
    picked _ _ _ (tested p4.args.stopped.state.going p2.failed.ensures c.if-state-failed.true)

returns-2 : tie.Need-returns-then-state-cut
returns-2 c =
    let p3 = c in
    let p4 = p3 in
    let p6 = p4 in
    let p8 = p6 in
    let s = p8.args.stopped.state in
    passed _ _ _ _ (tested s.going p6.failed.ensures p4.if-state-failed.false)
    (picked _ _ _ (tested_two s.over s.left p3.cut.ensures c.if-state-cut.true))

returns-3 : tie.Need-returns
returns-3 c =
    let p3 = c in
    let p4 = p3 in
    let p6 = p4 in
    let p8 = p6 in
    let s = p8.args.stopped.state in
    passed _ _ _ _ (tested s.going p6.failed.ensures p4.if-state-failed.false)
    (passed _ _ _ _ (tested_two s.over s.left p3.cut.ensures c.if-state-cut.false) refl)

pub status_spec : {M : Type 1} → statement M
status_spec = tie.close (tie.spec (λ c κs. search rules) returns (λ c κs. search rules) returns-2 returns-3)
