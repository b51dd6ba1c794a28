-- `Channel::fresh` meets its contract.
use mathlib.Core.Path.{refl}
use Rattle.session.specs.Channel.{stored}
use Rattle.session.proofs.Channel.fresh.Statement.{statement}
use Rattle.session.proofs.Channel.fresh.Tie as tie

returns : tie.Need-returns
unfolding stored
returns c = refl

pub fresh_spec : {M : Type 1} → statement M
fresh_spec = tie.close (tie.spec returns)
