-- `layout_names::same_name` meets its contract.
use Rattle.layout_names.proofs.Repeats.{names_same}
use borrow.Author.Rules.{rules}
use Rattle.layout_names.proofs.same_name.Statement.{statement}
use Rattle.layout_names.proofs.same_name.Tie as tie

returns : tie.Need-returns
returns c =
    let p2 = c in
    let p4 = p2 in
    let p6 = p4 in
    let a = p6.args in
    names_same a.text.now a.froms.now a.tos.now a.j a.k p6.element.ensures p4.element-2.ensures
    p4.name-one.ensures p2.element-3.ensures p2.element-4.ensures c.name-other.ensures c.same.ensures

pub same_name_spec : {M : Type 1} → statement M
same_name_spec =
    tie.close
    (tie.spec
    (λ c κs. search rules) (λ c κs. search rules) (λ c κs. search rules) (λ c κs. search rules) (λ c κs. search rules)
    (λ c κs. search rules) (λ c κs. search rules) returns)
