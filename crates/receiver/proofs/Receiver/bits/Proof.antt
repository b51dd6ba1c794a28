-- `receiver::Receiver::bits` meets its contract.
use borrow.Author.Rules.{rules}
use Rattle.receiver.proofs.Beginning.{of_source}
use Rattle.receiver.proofs.Receiver.bits.Statement.{statement}
use Rattle.receiver.proofs.Receiver.bits.Tie as tie

returns : tie.Need-returns
returns c = of_source c.bits.ensures c.begun.ensures

pub bits_spec : {M : Type 1} → statement M
bits_spec = tie.close (tie.spec (λ c κs. search rules) (λ c κs. search rules) returns)
