use borrow.Author.Rules.{rules}
use Rattle.rawbits.proofs.Steps.{one_more, one-sixth, one-many}
use Rattle.rawbits.proofs.Reader.one.Statement.{statement}
use Rattle.rawbits.proofs.Reader.one.Tie as tie

returns : tie.Need-returns-then-self-lt5
returns c =
    let m = c in
    one_more _ _ _ _ m.add-next.ensures.0 m.add-next.ensures.1 c.if-self-lt5.true

returns-2 : tie.Need-returns-then-self-row
returns-2 c =
    let m = c in
    let n = m in
    one-sixth _ _ _ _ n.add-next.ensures.0 n.add-next.ensures.1 m.if-self-lt5.false c.if-self-row.true

returns-3 : tie.Need-returns
returns-3 c =
    let m = c in
    let n = m in
    one-many _ _ _ _ n.add-next.ensures.0 n.add-next.ensures.1 m.if-self-lt5.false c.if-self-row.false

pub one_spec : {M : Type 1} → statement M
one_spec =
    tie.close
    (tie.spec
    (λ c κs. search rules) (λ c. search rules) (λ c. search rules) returns (λ c. search rules) returns-2
    (λ c. search rules) returns-3)
