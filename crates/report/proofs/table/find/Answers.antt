-- The first pair of the table for which the test holds.
use Rattle.std.proofs.Common.{rules, ◌∙◌}
use borrow.Author.Tests.{tests}
use Rattle.std.proofs.lemmas.Iterator.{YieldsList-from_slice}
use Rattle.std.proofs.lemmas.Iterator.Search.{find_from_yields_List}
use Rattle.report.specs.Table.{find_pair, pairs}
use Rattle.report.proofs.Search.{here, first_found}
use Rattle.report.proofs.table.find.Goals as goal

pub returns : goal.returns
unfolding find_pair
returns c =
    let a = c.args in
    c.copied.ensures
    ∙ find_from_yields_List (here a.service a.subtype) _ _ _ c.find.ensures.ran (YieldsList-from_slice pairs c.iter.ensures.rest) (λ x b q k. search (rules, tests))
    ∙ first_found a.service a.subtype pairs
