-- `cutting::octet` meets its contract.
use borrow.Author.Rules.{rules}
use Rattle.session.proofs.Joined.{at_first, at_second}
use Rattle.session.proofs.cutting.octet.Statement.{statement}
use Rattle.session.proofs.cutting.octet.Tie as tie

returns : tie.Need-returns-then-i-k
returns c = let a = c.args in at_first a.held.now a.«data».now a.i c.if-i-k.true

returns-2 : tie.Need-returns
returns-2 c = let a = c.args in at_second a.held.now a.«data».now a.i c.if-i-k.false

pub octet_spec : {M : Type 1} → statement M
octet_spec = tie.close (tie.spec (λ c. search rules) returns (λ c. search rules) returns-2)
