-- `summary_count::counters::list` meets its contract.
use Rattle.summary_count.proofs.Counting.{placing}
use borrow.Author.Rules.{rules}
use Rattle.summary_count.proofs.counters.list.Goals as goal

pub returns-then-i-many : goal.returns-then-i-many
returns-then-i-many c = search (placing, rules)

pub returns-else-i-many : goal.returns-else-i-many
returns-else-i-many c = search (placing, rules)

pub returns-else-i-keys : goal.returns-else-i-keys
returns-else-i-keys c = search (placing, rules)
