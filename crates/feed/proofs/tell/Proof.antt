-- `feed::tell` meets its contract.
use Rattle.std.proofs.Common.{rules}
use Rattle.receiver.specs.declared.Event.TheVariants as event
use Rattle.feed.proofs.Pulling.{told, told-missing}
use Rattle.feed.proofs.tell.Statement.{statement}
use Rattle.feed.proofs.tell.Tie as tie

returns : tie.Need-returns-in-Missing
returns c =
    let c4 = c in
    let a = c4.args in
    told-missing a.input.now a.from a.end a.passed a.before c4.in-Missing.is c.more.ensures

returns-2 : tie.Need-returns-in-Bad
returns-2 c =
    let c3 = c in
    let p = c3 in
    let a = p.args in
    told a.input.now a.from a.end a.passed a.before event.Bad p.none-read.ensures p.none-read.ensures
    c3.in-Bad.is

returns-3 : tie.Need-returns-in-Over
returns-3 c =
    let p = c in
    let a = p.args in
    told a.input.now a.from a.end a.passed a.before event.Over p.none-read.ensures p.none-read.ensures
    c.in-Over.is

returns-4 : tie.Need-returns-in-Opened
returns-4 c =
    let p = c in
    let a = p.args in
    told a.input.now a.from a.end a.passed a.before event.Opened p.none-read.ensures p.none-read.ensures
    c.in-Opened.is

returns-5 : tie.Need-returns-in-Nothing
returns-5 c =
    let p = c in
    let a = p.args in
    told a.input.now a.from a.end a.passed a.before event.Nothing p.none-read.ensures p.none-read.ensures
    c.in-Nothing.is

returns-6 : tie.Need-returns-in-Answered
returns-6 c =
    let p = c in
    let a = p.args in
    told a.input.now a.from a.end a.passed a.before (event.Answered _) p.none-read.ensures p.none-read.ensures
    c.in-Answered.is

pub tell_spec : {M : Type 1} → statement M
tell_spec =
    tie.close
    (tie.spec
    (λ c κs. search rules) (λ c. search rules) (λ c κs. search rules) (λ c. search rules) returns (λ c. search rules)
    (λ c κs. search rules) (λ c κs. search rules) (λ c. search rules) (λ c. search rules) (λ c. search rules)
    (λ c. search rules) (λ c. search rules) returns-2 returns-3 returns-4 returns-5 returns-6)
