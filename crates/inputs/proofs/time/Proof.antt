-- `time` meets its contract.
use Rattle.std.proofs.Common.{rules}
use Rattle.octets.proofs.Choices.{answers}
use Rattle.octets.proofs.Tests.{tests}
use Rattle.inputs.specs.Words.{time_of}
use Rattle.inputs.proofs.time.Statement.{statement}
use Rattle.inputs.proofs.time.Tie as tie

returns : tie.Need-returns-then-word-ne1
unfolding time_of
returns c = search (answers, tests)

returns-2 : tie.Need-returns-then-word-lt48
unfolding time_of
returns-2 c = search (answers, tests)

returns-3 : tie.Need-returns-then-word-gt56
unfolding time_of
returns-3 c = search (answers, tests)

returns-4 : tie.Need-returns
unfolding time_of
returns-4 c = search (answers, tests)

pub time_spec : {M : Type 1} → statement M
time_spec =
    tie.close
    (tie.spec returns (λ c. search rules) returns-2 (λ c. search rules) returns-3 (λ c. search rules) (λ c. search rules) returns-4)
