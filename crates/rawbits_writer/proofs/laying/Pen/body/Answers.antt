use Rattle.std.proofs.Common.{arith, rules}
use Rattle.rawbits_writer.proofs.Writing.{body-first, body-room, body-next, body_end}
use Rattle.rawbits_writer.proofs.laying.Pen.body.Goals as goal

pub loop-octet-init : goal.loop-octet-init
loop-octet-init c = body-first _ c.requires.0

pub octet-requires : goal.octet-requires
octet-requires c = c.loop-octet.invariant.going.ready

pub drain-pen-requires : goal.drain-pen-requires
drain-pen-requires c = body-room c.loop-octet.invariant (omega arith) c.octet.ensures c.requires.1

pub loop-octet-preserved : goal.loop-octet-preserved
loop-octet-preserved c = body-next c.loop-octet.invariant (omega arith) c.octet.ensures c.drain-pen.ensures (search rules)

pub returns : goal.returns
returns c = body_end c.loop-octet.invariant (omega arith)
