use Rattle.std.proofs.Common.{arith, refl, sym, ◌∙◌}
use lib.Dec.{lit<}
use lib.Bits.{xor_zero_r}
use Rattle.bits.specs.Rows.Order.{high_first}
use Rattle.crc.proofs.Turn.{holds-ones, table_word}
use Rattle.crc.proofs.Passed.{passed-all}
use Rattle.crc.proofs.Table.{right}
use Rattle.crc.proofs.Halves.{halves_more}
use Rattle.crc.proofs.packet_check.Goals as goal

pub loop-x-init : goal.loop-x-init
unfolding right table_word
loop-x-init c = record { words = record { all = refl; words = refl }; passed = record { holds = holds-ones high_first } }

pub loop-x-preserved : goal.loop-x-preserved
loop-x-preserved c = halves_more c.loop-x.invariant c.loop-x-test.true (omega (arith, c.type_inv.octets c.loop-x.x-index))

pub returns : goal.returns
returns c = sym (xor_zero_r c.loop-x.crc) ∙ passed-all c.loop-x.invariant.passed 0 c.loop-x-test.false (lit< tt)
