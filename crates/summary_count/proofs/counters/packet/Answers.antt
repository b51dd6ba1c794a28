-- `summary_count::counters::packet` meets its contract.
use Rattle.summary_count.proofs.Counting.{placing}
use borrow.Author.Rules.{rules}
use Rattle.summary_count.proofs.counters.packet.Goals as goal

pub returns-then-list : goal.returns-then-list
returns-then-list c = search (placing, rules)

pub returns : goal.returns
returns c = search (placing, rules)
