-- `head` meets its contract.
use Rattle.std.proofs.Common.{rules}
use Rattle.transmit_recording.proofs.Losing.{head_is}
use Rattle.transmit_recording.proofs.head.Statement.{statement}
use Rattle.transmit_recording.proofs.head.Tie as tie

returns : tie.Need-returns
returns c = head_is _ _ c.four_octets-count.result c.arriving.result c.arriving.ensures c.four_octets-count.ensures

pub head_spec : {M : Type 1} → statement M
head_spec =
    tie.close
    (tie.spec
    (λ c κs. search rules) (λ c κs. search rules) (λ c. search rules) (λ c. search rules) (λ c. search rules) (λ c. search rules) returns)
