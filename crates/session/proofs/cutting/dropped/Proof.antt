-- `cutting::dropped` meets its contract.
use borrow.Author.Rules.{rules}
use mathlib.Core.Bool.{true, false}
use Rattle.session.proofs.Fitting.{dropped-is}
use Rattle.session.proofs.cutting.dropped.Statement.{statement}
use Rattle.session.proofs.cutting.dropped.Tie as tie

returns : tie.Need-returns-then-instep-k
returns c = let a = c.args in dropped-is a.instep a.held.now a.«data».now true c.if-instep-k.true

returns-2 : tie.Need-returns
returns-2 c = let a = c.args in dropped-is a.instep a.held.now a.«data».now false c.if-instep-k.false

pub dropped_spec : {M : Type 1} → statement M
dropped_spec = tie.close (tie.spec (λ c. search rules) returns returns-2)
