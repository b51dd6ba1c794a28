-- `cutting::points` meets its contract.
use borrow.Author.Tests.{lt-ltb, le-ltb}
use Rattle.session.proofs.cutting.points.Statement.{statement}
use Rattle.session.proofs.cutting.points.Tie as tie

returns : tie.Need-returns-then-place-n
returns c = simp (lt-ltb _ _ c.if-place-n.true)

returns-2 : tie.Need-returns
returns-2 c = simp (le-ltb _ _ c.if-place-n.false)

pub points_spec : {M : Type 1} → statement M
points_spec = tie.close (tie.spec returns returns-2)
