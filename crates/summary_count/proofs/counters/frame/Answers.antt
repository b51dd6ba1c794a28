-- `summary_count::counters::frame` meets its contract.
use Rattle.summary_count.proofs.Counting.{counting}
use borrow.Author.Rules.{rules}
use Rattle.summary_count.proofs.counters.frame.Goals as goal

pub returns : goal.returns
returns c = search (counting, rules)
