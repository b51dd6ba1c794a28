-- `decode_run::none_accepted` meets its contract.
use Rattle.std.proofs.Common.{Bool, not, ◌&&◌, eqb, ap, rules}
use Rattle.decode_run.proofs.none_accepted.Statement.{statement}
use Rattle.decode_run.proofs.none_accepted.Tie as tie

returns : tie.Need-returns
returns c =
    let s = c.args.state.receiver.session in
    ap (λ (b : Bool). (not b && not s.heard) && not (eqb s.arrival 0)) c.cut.ensures

pub none_accepted_spec : {M : Type 1} → statement M
none_accepted_spec = tie.close (tie.spec (λ c κs. search rules) returns)
