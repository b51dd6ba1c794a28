-- `turn` meets its contract.
use Rattle.summary_count.specs.Count.{ledger}
use Rattle.summary_run.proofs.Turning.{turned}
use Rattle.summary_run.proofs.turn.Goals as goal

pub returns : goal.returns
returns c =
    turned c.args.state c.args.input.now c.args.kept.now
    (ledger c.args.counts.now c.args.keys.now c.args.many.now c.args.last.now)
    c.pull-pulled.result c.requires c.pull-pulled.ensures c.heed-going.ensures c.found_bad-bad.ensures
