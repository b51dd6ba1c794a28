-- `summary_pen::pen::digits` meets its contract.
use Rattle.summary_pen.proofs.Saying.{digit-said, digits_said}
use Rattle.summary_pen.proofs.pen.+digits.Goals as goal

pub returns-then-n-lt10 : goal.returns-then-n-lt10
returns-then-n-lt10 t c = digit-said c.args.n c.if-n-lt10.true c.octet.ensures

pub returns : goal.returns
returns t c = digits_said c.args.n c.if-n-lt10.false c.ranges.n.fits c.digits-pen.ensures c.octet-2.ensures
