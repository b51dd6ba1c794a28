use Rattle.std.proofs.Common.{rules, tests}
use Rattle.std.proofs.lemmas.Iterator.{YieldsList-from_slice}
use Rattle.std.proofs.lemmas.Iterator.Consumers.{YieldsList-from_filter, count_from_yields_List}
use Rattle.kiss_writer.proofs.Escaping.{doubled, length-escaped}
use Rattle.kiss_writer.proofs.laying.escapes.Goals as goal

pub returns : goal.returns
returns c =
    let xs = c.args.body.now in
    let e =
    count_from_yields_List _ c.count.result c.count.ensures.ran
    (YieldsList-from_filter _ doubled (YieldsList-from_slice xs cc) c.filter.ensures.closure (λ x b q k. search (rules, tests))) in
    rw e (length-escaped xs)
