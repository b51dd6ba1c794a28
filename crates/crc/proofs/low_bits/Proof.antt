-- `crc::low_bits` meets its contract.
use borrow.Author.Rules.{rules}
use Rattle.crc.proofs.Low.{bits_sums_lt, bits_sums_lem}
use Rattle.crc.proofs.low_bits.Statement.{statement}
use Rattle.crc.proofs.low_bits.Tie as tie

cast-result : tie.Need-overflow_cast-result
cast-result c = record { fits = bits_sums_lt c.args.s (search rules) }

returns : tie.Need-returns
returns c = bits_sums_lem c.args.s (search rules)

pub low_bits_spec : {M : Type 1} → statement M
low_bits_spec = tie.close (tie.spec cast-result returns)
