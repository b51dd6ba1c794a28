-- The definitions compute to what the paper says.
use mathlib.Core.Path.{refl}
use Rattle.octets.specs.Pick.{pick}
use Rattle.crc.specs.Check.{check}
use Rattle.counts.specs.Lost.{lost_since}
use Rattle.frame.specs.Frame.{status_wrong}
use Rattle.packet.specs.Packet.{fields_of}
use Rattle.sequence.specs.Sequence.{since, outcome}
use Rattle.cases.specs.Cases.{AsThePaperSays}

pub as_the_paper_says : AsThePaperSays
unfolding pick check lost_since status_wrong fields_of since outcome
as_the_paper_says = refl
