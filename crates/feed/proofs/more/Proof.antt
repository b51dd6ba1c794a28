-- `feed::more` meets its contract.
use Rattle.std.proofs.Common.{sym, ◌∙◌, arith, rules}
use Rattle.feed.proofs.Pulling.{read-failed, read_some, read-cut, read-end, reads_on}
use Rattle.feed.proofs.more.Statement.{statement}
use Rattle.feed.proofs.more.Tie as tie

returns : tie.Need-returns-then-failed
returns c =
    let p = c in
    let a = p.args in
    reads_on p.refill-read.ensures p.have-have.ensures
    (read-failed a.before _ _ (sym c.failed.ensures ∙ c.if-failed.true))

returns-2 : tie.Need-returns-then-came-ne0
returns-2 c =
    let i = c in
    let i3 = i in
    let p = i3 in
    let a = p.args in
    reads_on p.refill-read.ensures p.have-have.ensures
    (read_some a.before _ _ (sym i3.failed.ensures ∙ i.if-failed.false)
    (λ z. i.if-came-ne0.true (i.came.ensures ∙ z)))

returns-3 : tie.Need-returns-then-cut
returns-3 c =
    let c3 = c in
    let c5 = c3 in
    let c7 = c5 in
    let c8 = c7 in
    let p = c8 in
    let a = p.args in
    reads_on p.refill-read.ensures p.have-have.ensures
    (read-cut a.before _ _ (sym c8.failed.ensures ∙ c7.if-failed.false)
    (sym c5.came.ensures ∙ omega (arith, c5.if-came-ne0.false)) (sym c3.cut.ensures ∙ c3.if-cut.true))

returns-4 : tie.Need-returns-else-cut
returns-4 c =
    let c3 = c in
    let c5 = c3 in
    let p = c5 in
    let a = p.args in
    reads_on p.refill-read.ensures p.have-have.ensures
    (read-end a.before _ _ (sym c5.failed.ensures ∙ c3.if-failed.false)
    (sym c3.came.ensures ∙ omega (arith, c.if-came-ne0.false)) (sym c.cut.ensures ∙ c.if-cut.false))

pub more_spec : {M : Type 1} → statement M
more_spec =
    tie.close
    (tie.spec
    (λ c κs. search rules) (λ c κs. search rules) (λ c κs. search rules) (λ c κs. search rules) (λ c κs. search rules)
    (λ c κs. search rules) (λ c κs. search rules) (λ c κs. search rules) (λ c κs. search rules) (λ c. search rules) returns
    (λ c. search rules) returns-2
    (λ c. search rules) returns-3 (λ c. search rules) returns-4)
