-- `summary_text::walks::refused` meets its contract.
use Rattle.summary_text.proofs.Refused.{refused_csv, refused-text}
use borrow.Author.Rules.{rules}
use Rattle.summary_text.proofs.walks.refused.Goals as goal

pub returns-then-csv : goal.returns-then-csv
returns-then-csv c = search (refused_csv, rules)

pub returns : goal.returns
returns c = search (refused-text, rules)
