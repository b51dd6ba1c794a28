-- `none_named` meets its contract.
use Rattle.std.proofs.Common.{Bool, ◌&&◌, ◌||◌, eqb, length, ap, rules}
use Rattle.inputs.specs.Words.{none_named}
use Rattle.inputs.proofs.none_named.Statement.{statement}
use Rattle.inputs.proofs.none_named.Tie as tie

returns : tie.Need-returns
unfolding none_named
returns c =
    let a = c.args in
    ap (λ (b : Bool). (a.there && eqb (length a.kind.now) 0) || b) c.wrong-wrong.ensures

pub none_named_spec : {M : Type 1} → statement M
none_named_spec = tie.close (tie.spec (λ c κs. search rules) returns)
