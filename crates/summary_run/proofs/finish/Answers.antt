-- `finish` meets its contract.
use Rattle.summary_count.specs.Count.{tally}
use Rattle.summary_run.proofs.Whole.{was_broken, was_unshown, was_bad_lem, was_good}
use Rattle.summary_run.proofs.finish.Goals as goal

pub returns-then-state-failed : goal.returns-then-state-failed
returns-then-state-failed c =
    was_broken c.args.csv c.args.stopped (tally c.args.counts.now c.args.keys.now c.args.many.now)
    c.failed.ensures
    c.if-state-failed.true

pub returns-then-unfinished : goal.returns-then-unfinished
returns-then-unfinished c =
    was_unshown c.args.csv c.args.stopped (tally c.args.counts.now c.args.keys.now c.args.many.now)
    c.failed.ensures
    c.if-state-failed.false _ c.show-told.result c.show-told.ensures c.unfinished.ensures c.if-unfinished.true

pub returns-then-state : goal.returns-then-state
returns-then-state c =
    was_bad_lem c.args.csv c.args.stopped (tally c.args.counts.now c.args.keys.now c.args.many.now)
    c.failed.ensures
    c.if-state-failed.false _ c.show-told.result c.show-told.ensures c.unfinished.ensures c.if-unfinished.false c.if-state.true

pub returns : goal.returns
returns c =
    was_good c.args.csv c.args.stopped (tally c.args.counts.now c.args.keys.now c.args.many.now)
    c.failed.ensures
    c.if-state-failed.false _ c.show-told.result c.show-told.ensures c.unfinished.ensures c.if-unfinished.false c.if-state.false
