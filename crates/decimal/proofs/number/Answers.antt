use Rattle.std.proofs.Common.{arith}
use Rattle.decimal.proofs.Laid.{puts_none, puts_laid}
use Rattle.decimal.proofs.number.Goals as goal

pub returns-then-out-at : goal.returns-then-out-at
returns-then-out-at c = puts_none (omega arith)

pub returns-then-out-at-lt-NUMBER : goal.returns-then-out-at-lt-NUMBER
returns-then-out-at-lt-NUMBER c = puts_none (omega arith)

pub returns : goal.returns
returns c = puts_laid (omega arith) c.lay.ensures
