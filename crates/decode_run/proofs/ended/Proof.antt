-- `decode_run::ended` meets its contract.
use Rattle.std.proofs.Common.{take, sym, refl, ap, ◌∙◌, rules}
use Rattle.octets.proofs.Choices.{picked, passed}
use Rattle.window.specs.declared.Written.{Written}
use Rattle.decode_run.proofs.ended.Statement.{statement}
use Rattle.decode_run.proofs.ended.Tie as tie

returns : tie.Need-returns-then-failed
returns c =
    let p2 = c in
    let p6 = p2 in
    ap (λ (o : Written). take o.size p6.args.out.now) c.none.ensures
    ∙ picked _ _ _ (sym p2.failed.ensures ∙ c.if-failed.true)

returns-2 : tie.Need-returns-then-state
returns-2 c =
    let p3 = c in
    let p4 = p3 in
    let p5 = p4 in
    let p9 = p5 in
    ap (λ (o : Written). take o.size p9.args.out.now) c.none-then-state.ensures
    ∙ passed _ _ _ _ (sym p5.failed.ensures ∙ p4.if-failed.false) (picked _ _ _ p3.if-state.true)

returns-3 : tie.Need-returns
returns-3 c =
    let p5 = c in
    let p8 = p5 in
    let p9 = p8 in
    let p10 = p9 in
    p5.last_line-last.ensures
    ∙ passed _ _ _ _ (sym p10.failed.ensures ∙ p9.if-failed.false) (passed _ _ _ _ p8.if-state.false refl)

pub ended_spec : {M : Type 1} → statement M
ended_spec =
    tie.close
    (tie.spec
    (λ c κs. search rules) (λ c κs. search rules) returns (λ c κs. search rules) (λ c κs. search rules)
    (λ c κs. search rules) returns-2 (λ c κs. search rules) (λ c κs. search rules) (λ c κs. search rules)
    (λ c κs. search rules) (λ c. search rules) returns-3)
