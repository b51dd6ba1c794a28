use Rattle.std.proofs.Common.{rules}
use Rattle.decimal.proofs.Decimal.{how_many, ten_places}
use Rattle.decimal.proofs.places.Goals as goal

pub returns-then-from-bound-clause-value : goal.returns-then-from-bound-clause-value
returns-then-from-bound-clause-value c = how_many c.loop-k.invariant (rw (← c.from.ensures) c.if-from-bound.true)

pub returns-clause-value : goal.returns-clause-value
returns-clause-value c = ten_places c.loop-k.invariant c.loop-k-test.false (search rules)
