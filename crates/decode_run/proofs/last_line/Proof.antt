-- `decode_run::last_line` meets its contract.
use Rattle.std.proofs.Common.{◌∙◌, arith, rules}
use Rattle.decode_run.specs.Turns.{ends}
use Rattle.decode_run.proofs.Turning.{put_first}
use Rattle.decode_run.proofs.last_line.Statement.{statement}
use Rattle.decode_run.proofs.last_line.Tie as tie

emit-requires : tie.Need-emit-requires
emit-requires c κs =
    let p3 = c in
    let p7 = p3 in
    ends p7.args.source (put_first p3.end-n.ensures (omega (arith, p7.requires)))

returns : tie.Need-returns
returns c =
    let p4 = c in
    let p8 = p4 in
    c.emit.ensures ∙ put_first p4.end-n.ensures (omega (arith, p8.requires))

pub last_line_spec : {M : Type 1} → statement M
last_line_spec = tie.close (tie.spec (λ c κs. search rules) emit-requires (λ c. search rules) returns)
