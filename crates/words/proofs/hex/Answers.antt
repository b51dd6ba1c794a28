use Rattle.std.proofs.Common.{rules, arith}
use Rattle.octets.proofs.Choices.{through}
use Rattle.words.proofs.Pairing.{odd, full, other, hexed}
use Rattle.words.proofs.hex.Goals as goal

pub returns-then-s-ne0 : goal.returns-then-s-ne0
returns-then-s-ne0 c = odd _ _ c.if-s-ne0.true

pub returns-then-out-n : goal.returns-then-out-n
returns-then-out-n c = full _ _ c.if-out-n.true

pub returns-then-no_hex : goal.returns-then-no_hex
returns-then-no_hex c = other _ _ (through c.no_hex.ensures c.if-no_hex.true)

pub lay-requires : goal.lay-requires
lay-requires c = (omega arith, search rules, through c.no_hex.ensures c.if-no_hex.false)

pub returns : goal.returns
returns c = hexed _ _ (search rules) (search rules) (through c.no_hex.ensures c.if-no_hex.false) c.lay.ensures
