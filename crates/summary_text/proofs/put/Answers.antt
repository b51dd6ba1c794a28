-- `summary_text::put` meets its contract.
use Rattle.summary_text.specs.Text.{summary_of}
use Rattle.summary_pen.proofs.Shown.{shown-all}
use Rattle.summary_text.proofs.put.Goals as goal

pub returns : goal.returns
returns c =
    let a = c.args in
    shown-all (summary_of a.counts.now a.keys.now a.many.now) a.out.now a.skip c.all-end.ensures
