-- `export_kiss_run::first` meets its contract.
use Rattle.octets.proofs.Choices.{picked, passed}
use Rattle.octets.proofs.Tests.{tests}
use Rattle.export_kiss_run.proofs.first.Statement.{statement}
use Rattle.export_kiss_run.proofs.first.Tie as tie

pub first_spec : {M : Type 1} → statement M
first_spec = tie.close (tie.spec (λ c. search (picked, tests)) (λ c. search (passed, tests)))
