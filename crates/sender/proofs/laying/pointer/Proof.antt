use Rattle.std.proofs.Common.{rules, le-ltb, lt-ltb}
use Rattle.sender.proofs.laying.pointer.Statement.{statement}
use Rattle.sender.proofs.laying.pointer.Tie as tie

returns : tie.Need-returns-then-place-n
returns c = simp (lt-ltb _ _ c.if-place-n.true)

returns-2 : tie.Need-returns
returns-2 c = simp (le-ltb _ _ c.if-place-n.false)

pub pointer_spec : {M : Type 1} → statement M
pointer_spec = tie.close
    (tie.spec
    (λ c. search rules) returns returns-2)
