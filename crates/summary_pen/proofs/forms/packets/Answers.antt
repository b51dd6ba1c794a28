-- `summary_pen::forms::packets` meets its contract.
use Rattle.summary_pen.proofs.InForm.{none_of_both, packets_csv, packets-text}
use borrow.Author.Rules.{rules}
use Rattle.summary_pen.proofs.forms.packets.Goals as goal

pub returns-then-all-eq0 : goal.returns-then-all-eq0
returns-then-all-eq0 c = search (none_of_both, rules)

pub returns-then-csv : goal.returns-then-csv
returns-then-csv c = search (packets_csv, rules)

pub returns : goal.returns
returns c = search (packets-text, rules)
