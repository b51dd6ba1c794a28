-- `listing::end` meets its contract.
use borrow.Author.Rules.{rules}
use Rattle.listing.proofs.Ends.{told-bad, told_none}
use Rattle.listing.proofs.end.Statement.{statement}
use Rattle.listing.proofs.end.Tie as tie

returns : tie.Need-returns-then-cut
returns c =
    let c4 = c in
    let c5 = c4 in
    let c7 = c5 in
    told-bad c7.args.source c5.cut.ensures c4.if-cut.true c.bad_line.ensures

returns-2 : tie.Need-returns
returns-2 c = told_none c.args.source c.cut.ensures c.if-cut.false

pub end_spec : {M : Type 1} → statement M
end_spec = tie.close (tie.spec (λ c κs. search rules) (λ c κs. search rules) (λ c. search rules) returns returns-2)
