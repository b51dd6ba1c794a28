use borrow.Author.Rules.{rules}
use borrow.Author.Tests.{eq-eqb, ne_eqb}
use Rattle.rawbits.proofs.Steps.{zero-stuffed, zero_more}
use Rattle.rawbits.proofs.Reader.zero.Statement.{statement}
use Rattle.rawbits.proofs.Reader.zero.Tie as tie

returns-2 : tie.Need-returns
returns-2 c =
    let m = c in
    zero_more _ _ (ne_eqb _ _ m.if-stuffed.false) _ _ m.add-next.ensures.0 m.add-next.ensures.1

pub zero_spec : {M : Type 1} → statement M
zero_spec = tie.close (tie.spec (λ c. zero-stuffed _ _ (eq-eqb _ _ c.if-stuffed.true)) (λ c κs. search rules) (λ c. search rules) returns-2)
