use borrow.Author.Rules.{rules}
use Rattle.rawbits.proofs.Steps.{latest-lt, add-more, add-whole}
use Rattle.rawbits.proofs.Row.add.Statement.{statement}
use Rattle.rawbits.proofs.Row.add.Tie as tie

returns-2 : tie.Need-returns
returns-2 c =
    let m = c in
    add-whole _ _ _ m.top.ensures m.if-self-lt7.false m.keep-next.ensures.0
    m.keep-next.ensures.1

pub add_spec : {M : Type 1} → statement M
add_spec =
    tie.close
    (tie.spec
    (λ c κs. search rules) (λ c. search (latest-lt, rules)) (λ c. search rules)
    (λ c. add-more _ _ _ c.top.ensures c.if-self-lt7.true)
    (λ c κs. search rules) (λ c. search rules) returns-2)
