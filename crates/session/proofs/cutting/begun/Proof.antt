-- `cutting::begun` meets its contract.
use Rattle.session.proofs.Entries.{begun-none, begun-some}
use Rattle.session.proofs.cutting.begun.Statement.{statement}
use Rattle.session.proofs.cutting.begun.Tie as tie

returns : tie.Need-returns-then-n-eq0
returns c = begun-none _ _ _ c.if-n-eq0.true

returns-2 : tie.Need-returns
returns-2 c = begun-some _ _ _ c.if-n-eq0.false

pub begun_spec : {M : Type 1} → statement M
begun_spec = tie.close (tie.spec returns returns-2)
