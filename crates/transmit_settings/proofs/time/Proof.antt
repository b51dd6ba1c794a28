-- `time` meets its contract.
use Rattle.std.proofs.Common.{rules}
use Rattle.transmit_settings.proofs.Setting.{time-set}
use Rattle.transmit_settings.proofs.time.Statement.{statement}
use Rattle.transmit_settings.proofs.time.Tie as tie

returns : tie.Need-returns
returns c =
    let h = c.hex-n in
    (time-set _ _ _ _ _ h.ensures.0 (search rules) c.up_to.ensures, h.ensures.1)

pub time_spec : {M : Type 1} → statement M
time_spec = tie.close (tie.spec (λ c κs. search rules) (λ c κs. search rules) (λ c. search rules) returns)
