-- `Report::read` meets its contract.
use Rattle.std.proofs.Common.{◌∙◌}
use Rattle.std.proofs.lemmas.Result.{err_from_is_err_and}
use Rattle.report.proofs.Read.{packet-accepted, packet-refused}
use Rattle.report.proofs.Report.read.Goals as goal

pub returns-in_err-packet : goal.returns-in_err-packet
returns-in_err-packet c =
    let p = err_from_is_err_and c.from_residual.result c.from_residual.ensures.1 in
    rw (p.1, p.2) (packet-refused _ c.read.ensures c.in_err-packet.was)

pub returns : goal.returns
returns c = c.read_content.ensures ∙ packet-accepted _ c.read.ensures c.in_ok-packet.was
