-- `window::write` meets its contract.
use mathlib.Core.Path.{ap}
use lib.ListN.{length}
use borrow.Author.Rules.{rules}
use Rattle.window.proofs.write.Statement.{statement}
use Rattle.window.proofs.write.Tie as tie

returns : tie.Need-returns
returns c = ap length c.hand-octets.ensures

pub write_spec : {M : Type 1} → statement M
write_spec =
    tie.close
    (tie.spec
    (λ c κs. search rules) (λ c κs. search rules) (λ c κs. search rules) (λ c. search rules) (λ c κs. search rules) returns)
