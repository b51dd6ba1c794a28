-- `summary_pen::forms::channel` meets its contract.
use Rattle.summary_pen.proofs.Saying.{none_said}
use Rattle.summary_pen.proofs.InForm.{channel_csv, channel-text}
use borrow.Author.Rules.{rules}
use Rattle.summary_pen.proofs.forms.channel.Goals as goal

pub returns-then-n-eq0 : goal.returns-then-n-eq0
returns-then-n-eq0 c = search (none_said, rules)

pub returns-then-csv : goal.returns-then-csv
returns-then-csv c = search (channel_csv, rules)

pub returns : goal.returns
returns c = search (channel-text, rules)
