-- `layouts::wrong::zero_at` meets its contract.
use Rattle.layouts.proofs.Reasons.{zeros}
use borrow.Author.Rules.{rules}
use Rattle.layouts.proofs.wrong.zero_at.Statement.{statement}
use Rattle.layouts.proofs.wrong.zero_at.Tie as tie

returns : tie.Need-returns
returns c =
    let p2 = c in
    zeros _ _ p2.numbers_at-first.ensures p2.zero_led.ensures c.second.ensures c.zero_led-2.ensures

pub zero_at_spec : {M : Type 1} → statement M
zero_at_spec =
    tie.close (tie.spec (λ c κs. search rules) (λ c κs. search rules) (λ c κs. search rules) (λ c κs. search rules) returns)
