-- `export_kiss_run::emit` meets its contract.
use Rattle.std.proofs.Common.{length, ap, ◌∙◌, rules}
use Rattle.export_kiss_run.proofs.TurnLaws.{whole-hand}
use Rattle.export_kiss_run.proofs.emit.Statement.{statement}
use Rattle.export_kiss_run.proofs.emit.Tie as tie

returns : tie.Need-returns
returns c =
    let p3 = c in
    c.write.ensures ∙ ap length (whole-hand p3.args.octets.now)

pub emit_spec : {M : Type 1} → statement M
emit_spec = tie.close (tie.spec (λ c κs. search rules) returns)
