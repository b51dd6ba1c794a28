-- `transmit_run::emit` meets its contract.
use Rattle.std.proofs.Common.{length, ap, ◌∙◌, rules}
use Rattle.transmit_run.proofs.emit.Statement.{statement}
use Rattle.transmit_run.proofs.emit.Tie as tie

returns : tie.Need-returns
returns c = c.write.ensures ∙ ap length c.requires

pub emit_spec : {M : Type 1} → statement M
emit_spec = tie.close (tie.spec (λ c κs. search rules) returns)
