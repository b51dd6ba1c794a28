-- `Session::fresh` meets its contract.
use borrow.Author.Rules.{rules}
use Rattle.session.proofs.Session.fresh.Statement.{statement}
use Rattle.session.proofs.Session.fresh.Tie as tie

returns : tie.Need-returns
returns c = rw c.fresh-channel.ensures

pub fresh_spec : {M : Type 1} → statement M
fresh_spec = tie.close (tie.spec (λ c κs. search rules) returns)
