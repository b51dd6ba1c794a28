-- `showing::put` meets its contract.
use Rattle.summary_count.specs.Count.{tally}
use Rattle.summary_run.proofs.Parts.{by_form}
use Rattle.summary_run.proofs.showing.put.Goals as goal

pub returns-then-csv : goal.returns-then-csv
returns-then-csv c =
    by_form (tally c.args.counts.now c.args.keys.now c.args.many.now) c.if-csv.true c.put_csv.ensures

pub returns : goal.returns
returns c =
    by_form (tally c.args.counts.now c.args.keys.now c.args.many.now) c.if-csv.false c.put.ensures
