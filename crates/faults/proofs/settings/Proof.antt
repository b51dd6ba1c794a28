-- `settings` meets its contract.
use Rattle.std.proofs.Common.{rules}
use Rattle.faults.proofs.Whys.{settings-short, settings-other, settings-cut, settings-long}
use Rattle.faults.proofs.settings.Statement.{statement}
use Rattle.faults.proofs.settings.Tie as tie

returns : tie.Need-returns-then-rest-lt4
returns c = settings-short _ c.if-rest-lt4.true

returns-2 : tie.Need-returns-then-four-ne1
returns-2 c = settings-other _ c.four.ensures c.if-rest-lt4.false c.if-four-ne1.true

returns-3 : tie.Need-returns-then-rest-lt5
returns-3 c =
    let c7 = c in
    settings-cut _ c.four.ensures c7.if-rest-lt4.false c.if-four-ne1.false c.if-rest-lt5.true

returns-4 : tie.Need-returns
returns-4 c =
    let c7 = c in
    settings-long _ c.four.ensures c7.if-rest-lt4.false c.if-four-ne1.false c.if-rest-lt5.false

pub settings_spec : {M : Type 1} → statement M
settings_spec =
    tie.close
    (tie.spec
    returns (λ c. search rules) (λ c. search rules) (λ c. search rules) (λ c. search rules)
    (λ c κs. search rules) returns-2 returns-3 returns-4)
