-- `laying::Pen::flag` meets its contract.
use borrow.Author.Rules.{rules}
use Rattle.rawbits_writer.proofs.Writing.{flag-room, flag-writes}
use Rattle.rawbits_writer.proofs.laying.Pen.flag.Statement.{statement}
use Rattle.rawbits_writer.proofs.laying.Pen.flag.Tie as tie

pub flag_spec : {M : Type 1} → statement M
flag_spec = tie.close
    (tie.spec
    (λ c. search rules) (λ c. search rules) (λ c. search rules) (λ c κs. search (flag-room, rules))
    (λ c. search rules) (λ c. search (flag-writes, rules)))
