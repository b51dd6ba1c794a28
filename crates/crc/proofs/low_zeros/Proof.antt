-- `crc::low_zeros` meets its contract.
use borrow.Author.Rules.{rules}
use Rattle.crc.proofs.Low.{zeros_sums_lem}
use Rattle.crc.proofs.low_zeros.Statement.{statement}
use Rattle.crc.proofs.low_zeros.Tie as tie

returns : tie.Need-returns
returns c = zeros_sums_lem c.args.s (search rules)

pub low_zeros_spec : {M : Type 1} → statement M
low_zeros_spec = tie.close (tie.spec returns)
