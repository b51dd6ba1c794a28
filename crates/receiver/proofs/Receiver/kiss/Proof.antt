-- `receiver::Receiver::kiss` meets its contract.
use borrow.Author.Rules.{rules}
use Rattle.receiver.proofs.Beginning.{of_source}
use Rattle.receiver.proofs.Receiver.kiss.Statement.{statement}
use Rattle.receiver.proofs.Receiver.kiss.Tie as tie

returns : tie.Need-returns
returns c = of_source c.kiss.ensures c.begun.ensures

pub kiss_spec : {M : Type 1} → statement M
kiss_spec = tie.close (tie.spec (λ c κs. search rules) (λ c κs. search rules) returns)
