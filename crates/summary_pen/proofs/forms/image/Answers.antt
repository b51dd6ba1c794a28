-- `summary_pen::forms::image` meets its contract.
use Rattle.summary_pen.proofs.Saying.{none_said}
use Rattle.summary_pen.proofs.InForm.{image_csv, image-text}
use borrow.Author.Rules.{rules}
use Rattle.summary_pen.proofs.forms.image.Goals as goal

pub returns-then-key-eq0 : goal.returns-then-key-eq0
returns-then-key-eq0 c = search (none_said, rules)

pub returns-then-csv : goal.returns-then-csv
returns-then-csv c = search (image_csv, rules)

pub returns : goal.returns
returns c = search (image-text, rules)
