-- `up_to` meets its contract.
use Rattle.std.proofs.Common.{◌∙◌, rules}
use Rattle.octets.proofs.Choices.{answers}
use Rattle.octets.proofs.Tests.{tests}
use Rattle.transmit_settings.specs.Setting.{up_to}
use Rattle.transmit_settings.proofs.up_to.Statement.{statement}
use Rattle.transmit_settings.proofs.up_to.Tie as tie

returns : tie.Need-returns-then-most-n
unfolding up_to
returns c = c.stopped.ensures ∙ search (answers, tests)

returns-2 : tie.Need-returns
unfolding up_to
returns-2 c = c.going.ensures ∙ search (answers, tests)

pub up_to_spec : {M : Type 1} → statement M
up_to_spec = tie.close (tie.spec (λ c κs. search rules) returns (λ c κs. search rules) returns-2)
