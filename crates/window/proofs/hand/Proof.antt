-- `window::hand` meets its contract.
use Rattle.window.proofs.Hands.{hand-none, hand-rest, hand-beyond}
use borrow.Author.Rules.{rules}
use Rattle.window.proofs.hand.Statement.{statement}
use Rattle.window.proofs.hand.Tie as tie

returns : tie.Need-returns-then-end-at
returns c = hand-none _ _ _ c.part.ensures c.if-end-at.true

returns-3 : tie.Need-returns-then-at-input
returns-3 c = hand-rest _ _ _ c.if-end-input.false

returns-4 : tie.Need-returns
returns-4 c = hand-beyond _ _ _ c.part-2.ensures c.if-at-input.false

pub hand_spec : {M : Type 1} → statement M
hand_spec =
    tie.close
    (tie.spec
    (λ c κs. search rules) returns (λ c. search rules) (λ c. search rules) (λ c. search rules) (λ c. search rules)
    (λ c. search rules) (λ c. search rules) (λ c. search rules) returns-3 (λ c κs. search rules) returns-4)
