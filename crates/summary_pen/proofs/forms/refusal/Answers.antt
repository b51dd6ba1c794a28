-- `summary_pen::forms::refusal` meets its contract.
use Rattle.summary_pen.proofs.Saying.{none_said, any_said}
use borrow.Author.Rules.{rules}
use Rattle.summary_pen.proofs.forms.refusal.Goals as goal

pub returns-then-n-eq0 : goal.returns-then-n-eq0
returns-then-n-eq0 c = search (none_said, rules)

pub returns : goal.returns
returns c = search (any_said, rules)
