-- `transmit_run::more` meets its contract.
use Rattle.std.proofs.Common.{refl, rules}
use Rattle.transmit_run.proofs.Fillings.{fills-none, fills}
use Rattle.transmit_run.proofs.more.Statement.{statement}
use Rattle.transmit_run.proofs.more.Tie as tie

returns : tie.Need-returns-then-script-have
returns c =
    let c4 = c in
    let a = c4.args in fills-none a.before a.script.now c.if-script-have.true c.none.ensures

returns-2 : tie.Need-returns
returns-2 c =
    let c4 = c in
    let c9 = c4 in
    let a = c9.args in
    fills a.before a.script.now c4.refill-read.ensures c.have.ensures c.came.ensures refl

pub more_spec : {M : Type 1} → statement M
more_spec =
    tie.close
    (tie.spec
    (λ c κs. search rules) returns (λ c κs. search rules) (λ c κs. search rules) (λ c κs. search rules) (λ c. search rules) returns-2)
