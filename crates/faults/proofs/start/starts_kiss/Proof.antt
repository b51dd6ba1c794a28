-- `faults::start::starts_kiss` meets its contract.
use Rattle.std.proofs.Common.{refl, rules, eq-eqb, ne_eqb}
use Rattle.octets.proofs.Choices.{picked, passed}
use Rattle.faults.proofs.start.starts_kiss.Statement.{statement}
use Rattle.faults.proofs.start.starts_kiss.Tie as tie

returns : tie.Need-returns-then-octets-eq0
returns c = picked _ _ _ (eq-eqb _ _ c.if-octets-eq0.true)

returns-2 : tie.Need-returns
returns-2 c = passed _ _ _ _ (ne_eqb _ _ c.if-octets-eq0.false) refl

pub starts_kiss_spec : {M : Type 1} → statement M
starts_kiss_spec = tie.close (tie.spec returns (λ c. search rules) returns-2)
