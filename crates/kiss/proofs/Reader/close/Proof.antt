-- `Reader::close` meets its contract.
use borrow.Author.Rules.{rules}
use mathlib.Core.Path.{◌∙◌}
use Rattle.kiss.proofs.Closing.{told_by_lem, closes_18, closes_19, closes_frame}
use Rattle.kiss.proofs.Reader.close.Statement.{statement}
use Rattle.kiss.proofs.Reader.close.Tie as tie

returns : tie.Need-returns-then-self
returns c =
    let i = c in
    told_by_lem _ i.at-reader.ensures c.tells.ensures ∙ closes_18 _ _ _ i.if-self.true

returns-2 : tie.Need-returns-then-self-2
returns-2 c =
    let i = c in
    told_by_lem _ i.at-reader.ensures c.tells-then-self-2.ensures ∙ closes_19 _ _ _ i.if-self.false c.if-self-2.true

returns-3 : tie.Need-returns
returns-3 c =
    let f = c in
    let i = f in
    told_by_lem _ i.at-reader.ensures c.tells-2.ensures
    ∙ closes_frame _ _ _ i.if-self.false f.if-self-2.false f.frame_length.ensures c.seal-n.ensures

pub close_spec : {M : Type 1} → statement M
close_spec =
    tie.close
    (tie.spec
    (λ c κs. search rules) (λ c κs. search rules) returns (λ c κs. search rules) returns-2
    (λ c κs. search rules) (λ c κs. search rules) (λ c κs. search rules) returns-3)
