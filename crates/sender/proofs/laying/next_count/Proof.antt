use Rattle.std.proofs.Common.{rules}
use Rattle.sender.proofs.laying.next_count.Statement.{statement}
use Rattle.sender.proofs.laying.next_count.Tie as tie

pub next_count_spec : {M : Type 1} → statement M
next_count_spec = tie.close (tie.spec (λ c κs. search rules) (λ c. search rules))
