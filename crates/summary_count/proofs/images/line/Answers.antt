-- `images::line` meets its contract.
use Rattle.summary_count.proofs.Noting.{report-refused, other-brought, line-brought}
use borrow.Enum.Refused.{opened}
use borrow.Author.Rules.{rules}
use Rattle.summary_count.proofs.images.line.Goals as goal

pub returns-in_default : goal.returns-in_default
returns-in_default c =
    report-refused c.args.counts.now c.read.ensures c.in_default.is

pub returns-in_default-content : goal.returns-in_default-content
returns-in_default-content c =
    other-brought c.args.counts.now c.read.ensures c.in-Ok.is (search (opened, rules))

pub returns : goal.returns
returns c =
    line-brought c.args.counts.now c.read.ensures c.in-Ok.is c.in-Line.is c.note.ensures
