-- `faults::start::starts_recording` meets its contract.
use Rattle.std.proofs.Common.{ℕ, ◌&&◌, eqb, leb, ap, rules, le-ltb, lt-ltb}
use Rattle.octets.specs.Numbers.{at}
use Rattle.octets.proofs.Choices.{picked, passed}
use Rattle.faults.proofs.start.starts_recording.Statement.{statement}
use Rattle.faults.proofs.start.starts_recording.Tie as tie

returns : tie.Need-returns-then-octets-lt5
returns c = picked _ _ _ (lt-ltb _ _ c.if-octets-lt5.true)

returns-2 : tie.Need-returns
returns-2 c =
    let p6 = c in
    let s = p6.args.octets.now in
    passed _ _ _ _ (le-ltb _ _ p6.if-octets-lt5.false) (ap (λ (n : ℕ). eqb n 1 && leb (at s 4) 8) c.four.ensures)

pub starts_recording_spec : {M : Type 1} → statement M
starts_recording_spec =
    tie.close
    (tie.spec
    returns (λ c. search rules) (λ c. search rules) (λ c. search rules) (λ c. search rules) (λ c κs. search rules)
    (λ c. search rules) returns-2)
