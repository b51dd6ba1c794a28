-- `faults::start::bit_octets` meets its contract.
use Rattle.std.proofs.Common.{rules, le-ltb, lt-ltb}
use Rattle.octets.proofs.Choices.{picked, passed}
use Rattle.faults.proofs.Looks.{both}
use Rattle.faults.proofs.start.bit_octets.Statement.{statement}
use Rattle.faults.proofs.start.bit_octets.Tie as tie

returns : tie.Need-returns-then-octets-lt16
returns c = picked _ _ _ (lt-ltb _ _ c.if-octets-lt16.true)

returns-2 : tie.Need-returns
returns-2 c =
    let p2 = c in
    passed _ _ _ _ (le-ltb _ _ p2.if-octets-lt16.false) (both c.alone.ensures c.one_among.ensures p2.part-first.ensures)

pub bit_octets_spec : {M : Type 1} → statement M
bit_octets_spec = tie.close (tie.spec returns (λ c κs. search rules) (λ c κs. search rules) (λ c κs. search rules) returns-2)
