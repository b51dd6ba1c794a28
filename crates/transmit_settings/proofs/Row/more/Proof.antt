-- `Row::more` meets its contract.
use Rattle.std.proofs.Common.{rules}
use Rattle.transmit_settings.proofs.Setting.{row_is}
use Rattle.transmit_settings.proofs.Row.more.Statement.{statement}
use Rattle.transmit_settings.proofs.Row.more.Tie as tie

returns : tie.Need-returns
returns c = row_is c.wrapping_add_usize.ensures c.wrapping_add_usize-2.ensures

pub more_spec : {M : Type 1} → statement M
more_spec = tie.close (tie.spec (λ c κs. search rules) (λ c κs. search rules) returns)
