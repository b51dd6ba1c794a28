-- `picture_frame::image_in` meets its contract.
use mathlib.Core.Path.{sym, ap, ◌∙◌}
use Rattle.picture_frame.specs.Received.{brought_of}
use Rattle.picture_frame.proofs.Packets.{no_report_lem, no_line, of_content}
use borrow.Enum.Refused.{opened}
use borrow.Author.Rules.{rules}
use Rattle.picture_frame.proofs.image_in.Goals as goal

pub returns-in_default : goal.returns-in_default
returns-in_default c =
    no_report_lem c.args.packet.now c.read.ensures c.in_default.is

pub returns-in_default-content : goal.returns-in_default-content
returns-in_default-content c =
    no_line c.in-Ok.report.content (search (opened, rules))
    ∙ of_content c.args.packet.now c.read.ensures c.in-Ok.is

pub returns : goal.returns
returns c =
    ap brought_of (sym c.in-Line.is)
    ∙ of_content c.args.packet.now c.read.ensures c.in-Ok.is
