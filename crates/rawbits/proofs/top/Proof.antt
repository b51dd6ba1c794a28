use Rattle.rawbits.proofs.top.Statement.{statement}
use Rattle.rawbits.proofs.top.Tie as tie

pub top_spec : {M : Type 1} → statement M
top_spec = tie.close (tie.spec (λ c. simp c.if-bit.true) (λ c. simp c.if-bit.false))
