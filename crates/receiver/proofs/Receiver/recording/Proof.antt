-- `receiver::Receiver::recording` meets its contract.
use borrow.Author.Rules.{rules}
use Rattle.receiver.proofs.Receiving.{fresh-is}
use Rattle.receiver.proofs.Receiver.recording.Statement.{statement}
use Rattle.receiver.proofs.Receiver.recording.Tie as tie

returns : tie.Need-returns
returns c = fresh-is 0 c.recording-source.ensures c.open-opened.ensures.session

pub recording_spec : {M : Type 1} → statement M
recording_spec = tie.close (tie.spec (λ c κs. search rules) (λ c κs. search rules) returns)
