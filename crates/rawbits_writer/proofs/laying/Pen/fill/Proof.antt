-- `laying::Pen::fill` meets its contract.
use borrow.Author.Rules.{rules}
use Rattle.rawbits_writer.proofs.Writing.{fill_room, fill_writes}
use Rattle.rawbits_writer.proofs.laying.Pen.fill.Statement.{statement}
use Rattle.rawbits_writer.proofs.laying.Pen.fill.Tie as tie

pub fill_spec : {M : Type 1} → statement M
fill_spec = tie.close
    (tie.spec
    (λ c. search rules) (λ c. search rules) (λ c κs. search (fill_room, rules)) (λ c. search rules)
    (λ c. search (fill_writes, rules)))
