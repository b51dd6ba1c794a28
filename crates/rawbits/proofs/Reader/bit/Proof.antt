use mathlib.Core.Path.{sym, ◌∙◌, ap}
use Rattle.rawbits.specs.Reader.{after}
use borrow.Author.Rules.{rules}
use Rattle.rawbits.proofs.Steps.{one_passes, zero-passes, flag-ends}
use Rattle.rawbits.proofs.Reader.bit.Statement.{statement}
use Rattle.rawbits.proofs.Reader.bit.Tie as tie

returns : tie.Need-returns-then-bit
returns c =
    let t = c.if-bit.true in
    one_passes _ _ _ (c.one-reader.ensures ∙ ap (after _) (sym t)) t

returns-2 : tie.Need-returns-then-self-eq6
returns-2 c =
    let m = c in
    flag-ends _ _ _ m.if-bit.false m.if-self-eq6.true c.closed-told.ensures c.begun-reader.ensures

returns-3 : tie.Need-returns
returns-3 c =
    let m = c in
    let t = m.if-bit.false in
    zero-passes _ _ _ (c.zero-reader.ensures ∙ ap (after _) (sym t)) t m.if-self-eq6.false

pub bit_spec : {M : Type 1} → statement M
bit_spec =
    tie.close
    (tie.spec
    (λ c κs. search rules) (λ c. search rules) returns (λ c κs. search rules) (λ c κs. search rules) returns-2
    (λ c κs. search rules) (λ c. search rules) returns-3)
