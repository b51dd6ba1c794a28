use Rattle.std.proofs.Common.{rules}
use Rattle.rawbits_writer.proofs.Penning.{turns-first, turns-few, turns_next, turns-end}
use Rattle.rawbits_writer.proofs.laying.Pen.octet.Goals as goal

pub loop-i-init : goal.loop-i-init
loop-i-init c = turns-first c.requires

pub bit-pen-requires : goal.bit-pen-requires
bit-pen-requires c = search (turns-few, rules)

pub loop-i-preserved : goal.loop-i-preserved
loop-i-preserved c = search (turns_next, rules)

pub returns : goal.returns
returns c = search (turns-end, rules)
