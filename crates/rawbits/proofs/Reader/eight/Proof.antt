use borrow.Author.Rules.{rules}
use Rattle.rawbits.proofs.Steps.{eight_is}
use Rattle.rawbits.proofs.Reader.eight.Statement.{statement}
use Rattle.rawbits.proofs.Reader.eight.Tie as tie

pub eight_spec : {M : Type 1} → statement M
eight_spec =
    tie.close
    (tie.spec
    (λ c. search rules) (λ c. search rules) (λ c. search rules) (λ c. search rules) (λ c. search rules) (λ c. search rules)
    (λ c. search rules) (λ c. search rules) (λ c κs. search rules) (λ c. search rules) (λ c. search rules) (λ c. search rules)
    (λ c. search rules) (λ c. let k = c.keep-whole.ensures in eight_is _ _ _ k.0 k.1))
