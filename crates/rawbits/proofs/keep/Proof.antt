use borrow.Author.Rules.{rules}
use mathlib.Core.Path.{refl}
use Rattle.rawbits.proofs.Steps.{keep_one, keep_none}
use Rattle.rawbits.proofs.keep.Statement.{statement}
use Rattle.rawbits.proofs.keep.Tie as tie

pub keep_spec : {M : Type 1} → statement M
keep_spec =
    tie.close
    (tie.spec (λ c. search rules) (λ c. search rules) (λ c. search rules)
    (λ c. (keep_one c.args.kept.now _ 0 c.if-at-kept.true, refl))
    (λ c. keep_none c.args.kept.now _ _ c.if-at-kept.false))
