-- `transmit_run::made_of` meets its contract.
use mir.Syntax.{w32}
use Rattle.std.proofs.Common.{◌∙◌, to_z-of_z, rules}
use Rattle.transmit_run.proofs.made_of.Statement.{statement}
use Rattle.transmit_run.proofs.made_of.Tie as tie

returns : tie.Need-returns
returns c =
    let p7 = c in
    record {
      lends = _;
      ended = _;
      ends = p7.lines-ended.ensures;
      says = to_z-of_z {w = w32} (search rules) ∙ c.status.ensures;
    }

pub made_of_spec : {M : Type 1} → statement M
made_of_spec =
    tie.close
    (tie.spec
    (λ c κs. search rules) (λ c κs. search rules) (λ c. search rules) (λ c. search rules) (λ c. search rules)
    (λ c. search rules) (λ c. search rules) (λ c. search rules) (λ c κs. search rules) (λ c κs. search rules)
    returns)
