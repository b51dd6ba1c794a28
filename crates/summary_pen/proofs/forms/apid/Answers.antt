-- `summary_pen::forms::apid` meets its contract.
use Rattle.summary_pen.proofs.InForm.{none_of_both, apid_csv, apid-text}
use borrow.Author.Rules.{rules}
use Rattle.summary_pen.proofs.forms.apid.Goals as goal

pub returns-then-any-eq0 : goal.returns-then-any-eq0
returns-then-any-eq0 c = search (none_of_both, rules)

pub returns-then-csv : goal.returns-then-csv
returns-then-csv c = search (apid_csv, rules)

pub returns : goal.returns
returns c = search (apid-text, rules)
