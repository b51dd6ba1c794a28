-- `export_kiss_run::more` meets its contract.
use Rattle.export_kiss_run.proofs.TurnLaws.{reads_on}
use Rattle.std.proofs.Common.{rules}
use Rattle.export_kiss_run.proofs.more.Statement.{statement}
use Rattle.export_kiss_run.proofs.more.Tie as tie

returns : tie.Need-returns
returns c =
    let p2 = c in
    let p3 = p2 in
    let p4 = p3 in
    let p7 = p4 in
    let p11 = p7 in
    reads_on p11.args.state p7.refill-read.ensures
    p4.have-have.ensures p3.came-came.ensures p2.failed-well.ensures c.none-next.ensures

pub more_spec : {M : Type 1} → statement M
more_spec =
    tie.close
    (tie.spec
    (λ c κs. search rules) (λ c κs. search rules) (λ c κs. search rules) (λ c κs. search rules)
    (λ c κs. search rules) (λ c κs. search rules) (λ c κs. search rules) (λ c. search rules) returns)
