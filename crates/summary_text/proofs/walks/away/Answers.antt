-- `summary_text::walks::away` meets its contract.
use Rattle.summary_text.proofs.Refused.{away_csv, away-text}
use borrow.Author.Rules.{rules}
use Rattle.summary_text.proofs.walks.away.Goals as goal

pub returns-then-csv : goal.returns-then-csv
returns-then-csv c = search (away_csv, rules)

pub returns : goal.returns
returns c = search (away-text, rules)
