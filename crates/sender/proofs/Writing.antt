-- What the frame writer promises is the sender's octets.
use Rattle.answer.proofs.Writer.{gives}
use Rattle.sender.specs.Sender.{sent_octets, WriterGives}

pub writer_gives : WriterGives
writer_gives t f out r out' right room w = gives _ (sent_octets t f) out r out' right room w
