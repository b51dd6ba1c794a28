use Rattle.std.proofs.Common.{◌∙◌, arith}
use Rattle.sender.proofs.One.{wrong-told}
use Rattle.sender.proofs.refusing.fields_wrong.Goals as goal

pub returns : goal.returns
returns c =
    let a = c.args in
    c.is_err.ensures.value ∙ wrong-told a.common a.master.0 a.count.0 a.time.now _ c.empty.ensures (omega arith)
