-- `decode_run::status` meets its contract.
use Rattle.std.proofs.Common.{refl, rules}
use Rattle.octets.proofs.Choices.{picked, passed}
use Rattle.decode_run.proofs.Whole.{tested, tested_two}
use Rattle.decode_run.proofs.status.Statement.{statement}
use Rattle.decode_run.proofs.status.Tie as tie

returns : tie.Need-returns-then-state-failed
returns c =
    let p3 = c in
    let p6 = p3 in
    picked _ _ _ (tested p6.args.stopped.state.going p3.failed.ensures c.failed-2.ensures c.if-state-failed.true)

returns-2 : tie.Need-returns-then-state-cut
returns-2 c =
    let p2 = c in
    let p4 = p2 in
    let p5 = p4 in
    let p7 = p5 in
    let p10 = p7 in
    passed _ _ _ _ (tested p10.args.stopped.state.going p7.failed.ensures p5.failed-2.ensures p4.if-state-failed.false)
    (picked _ _ _ (tested_two p10.args.stopped.state.over p2.cut.ensures c.if-state-cut.true))

returns-3 : tie.Need-returns
returns-3 c =
    let p2 = c in
    let p4 = p2 in
    let p5 = p4 in
    let p7 = p5 in
    let p10 = p7 in
    passed _ _ _ _ (tested p10.args.stopped.state.going p7.failed.ensures p5.failed-2.ensures p4.if-state-failed.false)
    (passed _ _ _ _ (tested_two p10.args.stopped.state.over p2.cut.ensures c.if-state-cut.false) refl)

pub status_spec : {M : Type 1} → statement M
status_spec =
    tie.close
    (tie.spec (λ c κs. search rules) (λ c κs. search rules) returns (λ c κs. search rules) returns-2 returns-3)
