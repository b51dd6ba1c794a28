-- `kiss::meant` meets its contract.
use Rattle.octets.proofs.Choices.{answers}
use Rattle.octets.proofs.Tests.{tests}
use Rattle.kiss.specs.Reader.{meant}
use Rattle.kiss.proofs.meant.Statement.{statement}
use Rattle.kiss.proofs.meant.Tie as tie

returns : tie.Need-returns-then-x-eq-FOR_MARK
unfolding meant
returns c = search (answers, tests)

returns-2 : tie.Need-returns-then-x-eq-FOR_ESCAPE
unfolding meant
returns-2 c = search (answers, tests)

returns-3 : tie.Need-returns
unfolding meant
returns-3 c = search (answers, tests)

pub meant_spec : {M : Type 1} → statement M
meant_spec = tie.close (tie.spec returns returns-2 returns-3)
