-- `address` meets its contract.
use Rattle.std.proofs.Common.{rules}
use Rattle.transmit_settings.proofs.Setting.{address_is}
use Rattle.transmit_settings.proofs.address.Statement.{statement}
use Rattle.transmit_settings.proofs.address.Tie as tie

returns : tie.Need-returns
returns c =
    let c3 = c in
    let c4 = c3 in
    let c5 = c4 in
    let c7 = c5 in
    let a = c7.args in
    address_is a.s.now a.ssid c5.sign.ensures c4.sign-2.ensures
    c3.sign-3.ensures c.sign-4.ensures c.sign-5.ensures c.sign-6.ensures

pub address_spec : {M : Type 1} → statement M
address_spec =
    tie.close (tie.spec (λ c κs. search rules) (λ c κs. search rules) (λ c κs. search rules) (λ c κs. search rules) (λ c κs. search rules)
    (λ c κs. search rules) returns)
