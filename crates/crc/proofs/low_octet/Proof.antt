-- `crc::low_octet` meets its contract: a turn as by a table, with the table's word worked out.
use mathlib.Core.Path.{refl}
use borrow.Author.Rules.{rules}
use Rattle.bits.specs.Rows.Order.{low_first}
use Rattle.crc.proofs.Turn.{place-lt, holds_turn}
use Rattle.crc.proofs.Low.{octet-word}
use Rattle.crc.proofs.low_octet.Statement.{statement}
use Rattle.crc.proofs.low_octet.Tie as tie

returns : tie.Need-returns
returns c =
    (holds_turn low_first 8 8 c.args.crc c.args.x _ refl (search rules)
    (octet-word _ (place-lt low_first 8 8 c.args.crc c.args.x (search rules) (search rules)))).bits

pub low_octet_spec : {M : Type 1} → statement M
low_octet_spec = tie.close (tie.spec returns)
