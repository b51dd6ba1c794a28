-- `transmit_run::hand_on` meets its contract.
use Rattle.std.proofs.Common.{rules}
use Rattle.transmit_run.proofs.Ending.{laid-held}
use Rattle.transmit_run.proofs.hand_on.Statement.{statement}
use Rattle.transmit_run.proofs.hand_on.Tie as tie

emit-requires : tie.Need-emit-requires
emit-requires c κs =
    let f = c in
    let a = f.args in
    laid-held a.t a.made.now a.frames.now a.out.now f.requires c.lay-size.ensures

returns : tie.Need-returns
returns c = c.emit.ensures

pub hand_on_spec : {M : Type 1} → statement M
hand_on_spec = tie.close (tie.spec (λ c κs. search rules) emit-requires (λ c. search rules) returns)
