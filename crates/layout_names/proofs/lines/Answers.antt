-- `layout_names::lines` meets its contract.
use Rattle.std.proofs.Common.{◌≡◌, eqb, count_by, rules, sym, ◌∙◌}
use Rattle.layout_names.proofs.Repeats.{counted}
use Rattle.layout_names.proofs.lines.Goals as goal

pub returns : goal.returns
returns c =
    let by_call : c.count.result ≡ count_by (λ x. eqb x 10) c.args.octets.now = search rules in
    by_call ∙ sym (counted c.args.octets.now)
