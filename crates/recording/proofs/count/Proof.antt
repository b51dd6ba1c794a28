-- `recording::count` meets its contract.
use Rattle.recording.proofs.Sections.{count-short, count-whole}
use borrow.Author.Rules.{rules}
use Rattle.recording.proofs.count.Statement.{statement}
use Rattle.recording.proofs.count.Tie as tie

pub count_spec : {M : Type 1} → statement M
count_spec =
    tie.close
    (tie.spec
    (λ c. search rules) (λ c. count-short _ c.if-n-lt4.true) (λ c. search rules) (λ c. search rules) (λ c. search rules) (λ c. search rules)
    (λ c κs. search rules) (λ c. search rules)
    (λ c. count-whole _ c.four.ensures c.if-n-lt4.false))
