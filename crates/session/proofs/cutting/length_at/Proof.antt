-- `cutting::length_at` meets its contract.
use borrow.Author.Rules.{rules}
use lib.Seq.{get_or-drop}
use Rattle.session.proofs.cutting.length_at.Statement.{statement}
use Rattle.session.proofs.cutting.length_at.Tie as tie

returns : tie.Need-returns
returns c = simp (get_or-drop, c.word.ensures, c.octet-low.ensures, c.octet-high.ensures)

pub length_at_spec : {M : Type 1} → statement M
length_at_spec =
    tie.close
    (tie.spec
    (λ c. search rules) (λ c κs. search rules) (λ c. search rules) (λ c κs. search rules) (λ c κs. search rules) (λ c. search rules)
    (λ c. search rules) returns)
