use Rattle.octets.proofs.Tests.{tests}
use Rattle.packet.specs.Packet.{length_wrong}
use Rattle.packet.proofs.length_wrong.Goals as goal

pub returns-then-n-lt-LEAST : goal.returns-then-n-lt-LEAST
unfolding length_wrong
returns-then-n-lt-LEAST c = search tests

pub returns : goal.returns
unfolding length_wrong
returns c = search (tests, c.word.ensures)
