-- `decode_run::failed` meets its contract.
use Rattle.std.proofs.Common.{Bool, ◌||◌, ap, ◌∙◌, rules}
use Rattle.decode_run.proofs.failed.Statement.{statement}
use Rattle.decode_run.proofs.failed.Tie as tie

returns : tie.Need-returns
returns c =
    let p4 = c in
    ap (λ (b : Bool). b || c.failed-2.result) c.failed.ensures
    ∙ ap (λ (b : Bool). p4.args.state.read.failed || b) c.failed-2.ensures

pub failed_spec : {M : Type 1} → statement M
failed_spec = tie.close (tie.spec (λ c κs. search rules) (λ c κs. search rules) returns)
