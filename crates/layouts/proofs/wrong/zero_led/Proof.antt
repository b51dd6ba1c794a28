-- `layouts::wrong::zero_led` meets its contract.
use mathlib.Core.Path.{ap, sym, ◌∙◌}
use Rattle.layouts.specs.Reason.{led_by_zero, zero_led}
use Rattle.layouts.proofs.Reasons.{too_short}
use borrow.Author.Rules.{rules}
use Rattle.layouts.proofs.wrong.zero_led.Statement.{statement}
use Rattle.layouts.proofs.wrong.zero_led.Tie as tie

returns : tie.Need-returns-then-two-lt2
unfolding zero_led
returns c =
    let p = c.part-two in
    sym (ap led_by_zero (sym p.ensures) ∙ too_short p.result.now c.if-two-lt2.true)

returns-2 : tie.Need-returns
unfolding zero_led
returns-2 c = ap led_by_zero c.part-two.ensures

pub zero_led_spec : {M : Type 1} → statement M
zero_led_spec =
    tie.close
    (tie.spec (λ c κs. search rules) returns (λ c. search rules) (λ c. search rules) (λ c. search rules) returns-2)
