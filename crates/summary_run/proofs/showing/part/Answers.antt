-- `showing::part` meets its contract.
use Rattle.summary_count.specs.Count.{tally}
use Rattle.summary_run.specs.Shown.{text_of}
use Rattle.summary_run.proofs.Parts.{put_front, showed}
use Rattle.summary_run.proofs.showing.part.Goals as goal

pub emit-written-requires : goal.emit-written-requires
emit-written-requires c =
    put_front (text_of c.args.csv (tally c.args.counts.now c.args.keys.now c.args.many.now)) c.args.page.skip
    c.put-n.ensures c.put-n.auto.out

pub returns : goal.returns
returns c =
    showed (text_of c.args.csv (tally c.args.counts.now c.args.keys.now c.args.many.now)) c.args.page
    c.put-n.ensures c.put-n.auto.out c.emit-written.ensures c.sum-skip.ensures c.failed.ensures
