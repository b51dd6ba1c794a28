-- `laying::Pen::bit` meets its contract.
use borrow.Author.Rules.{rules}
use Rattle.rawbits_writer.proofs.Penning.{bit-zero, bit-one, bit-fifth}
use Rattle.rawbits_writer.proofs.laying.Pen.bit.Statement.{statement}
use Rattle.rawbits_writer.proofs.laying.Pen.bit.Tie as tie

returns : tie.Need-returns-then-not-bit
returns c = search (bit-zero, rules)

returns-2 : tie.Need-returns-then-self-lt4
returns-2 c = search (bit-one, rules)

returns-3 : tie.Need-returns
returns-3 c = search (bit-fifth, rules)

pub bit_spec : {M : Type 1} → statement M
bit_spec =
    tie.close
    (tie.spec
    (λ c. search rules) (λ c. search rules) returns (λ c. search rules) (λ c. search rules) (λ c. search rules)
    (λ c. search rules) returns-2
    (λ c. search rules) (λ c. search rules) (λ c. search rules) returns-3)
