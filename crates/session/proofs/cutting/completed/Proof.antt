-- `cutting::completed` meets its contract.
use native.Mathlib.Omega.{arith}
use Rattle.rules.proofs.Cutting.{header_less, header-more}
use Rattle.session.proofs.cutting.completed.Statement.{statement}
use Rattle.session.proofs.cutting.completed.Tie as tie

returns : tie.Need-returns-then-held-lt6
returns c = omega (arith, header_less c.args.held c.if-held-lt6.true)

-- one was found
sub-result : tie.Need-overflow_sub-result
sub-result c = omega (arith, c.requires.some c.if-held-lt6.false)

returns-2 : tie.Need-returns
returns-2 c = omega (arith, header-more c.args.held c.if-held-lt6.false, c.requires.some c.if-held-lt6.false)

pub completed_spec : {M : Type 1} → statement M
completed_spec =
    tie.close
    (tie.spec
    (λ c. omega (arith, c.requires.one, c.requires.few)) returns
    (λ c. omega (arith, c.requires.one, c.requires.few)) sub-result
    returns-2)
