-- `source::told` meets its contract.
use mathlib.Core.Path.{sym, ap}
use borrow.Author.Rules.{rules}
use Rattle.source.specs.Scan.{taken_of}
use Rattle.source.proofs.told.Statement.{statement}
use Rattle.source.proofs.told.Tie as tie

returns : tie.Need-returns-in-Missing
returns c = sym (ap taken_of c.in-Missing.is)

returns-4 : tie.Need-returns-in-Opened
returns-4 c = sym (ap taken_of c.in-Opened.is)

returns-6 : tie.Need-returns-in-Here
returns-6 c = sym (ap taken_of c.in-Here.is)

pub told_spec : {M : Type 1} → statement M
told_spec =
    tie.close
    (tie.spec
    (λ c. search rules) (λ c. search rules) (λ c. search rules) (λ c. search rules) (λ c. search rules)
    (λ c. search rules) returns (λ c. search rules) (λ c. search rules) returns-4 (λ c. search rules) returns-6)
