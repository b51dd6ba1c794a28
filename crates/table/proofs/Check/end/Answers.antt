-- `table::Check::end` meets its contract.
use Rattle.table.proofs.Looking.{ends_not, ends-all, ends-short, ends-order, ends-none}
use Rattle.table.proofs.Check.end.Goals as goal

pub returns-then-not-self : goal.returns-then-not-self
returns-then-not-self c = ends_not _ _ c.if-not-self.true

pub returns-then-self : goal.returns-then-self
returns-then-self c = ends-all _ _ c.if-not-self.false c.if-self.true

pub returns-then-rows-lt-ROW : goal.returns-then-rows-lt-ROW
returns-then-rows-lt-ROW c = ends-short _ _ c.if-not-self.false c.if-self.false c.if-rows-lt-ROW.true

pub returns-then-four_at-self : goal.returns-then-four_at-self
returns-then-four_at-self c =
    ends-order _ _ c.if-not-self.false c.if-self.false c.if-rows-lt-ROW.false c.four_at.ensures c.if-four_at-self.true

pub returns : goal.returns
returns c =
    ends-none _ _ c.if-not-self.false c.if-self.false c.if-rows-lt-ROW.false c.four_at.ensures c.if-four_at-self.false
