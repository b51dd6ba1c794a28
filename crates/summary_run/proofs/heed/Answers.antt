-- `heed` meets its contract.
use borrow.Enum.Refused.{opened}
use Rattle.summary_count.specs.Count.{ledger}
use Rattle.summary_run.proofs.Counting.{more-comes, none-comes, one-answered}
use Rattle.summary_run.proofs.heed.Goals as goal

pub returns-in-More : goal.returns-in-More
returns-in-More c =
    more-comes c.args.octets.now c.args.lengths.now
    (ledger c.args.counts.now c.args.keys.now c.args.many.now c.args.last.now) c.args.pull
    c.in-More.in-More-own.keys1

pub returns-in-Answered : goal.returns-in-Answered
returns-in-Answered c =
    one-answered c.args.octets.now c.args.lengths.now
    (ledger c.args.counts.now c.args.keys.now c.args.many.now c.args.last.now) c.in-Answered.is
    c.answered.ensures

pub returns-in-Bad : goal.returns-in-Bad
returns-in-Bad c =
    none-comes c.args.octets.now c.args.lengths.now
    (ledger c.args.counts.now c.args.keys.now c.args.many.now c.args.last.now) c.args.pull
    (opened c.in-Bad.in-Bad-own.keys3)
