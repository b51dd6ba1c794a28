-- `summary_count::counters::add_loss` meets its contract.
use Rattle.summary_count.proofs.Counting.{counting}
use borrow.Author.Rules.{rules}
use Rattle.summary_count.proofs.counters.add_loss.Goals as goal

pub returns-in-None : goal.returns-in-None
returns-in-None c = search (counting, rules)

pub returns-in-Some : goal.returns-in-Some
returns-in-Some c = search (counting, rules)
