-- `summary_text::put_csv` meets its contract.
use Rattle.summary_text.specs.Text.{csv_of}
use Rattle.summary_pen.proofs.Shown.{shown-all}
use Rattle.summary_text.proofs.put_csv.Goals as goal

pub returns : goal.returns
returns c =
    let a = c.args in
    shown-all (csv_of a.counts.now a.keys.now a.many.now) a.out.now a.skip c.all-end.ensures
