-- `loading::line_ended` meets its contract.
use Rattle.readings_run.proofs.Ending.{no_text, no_room, was_ended, now_ended}
use Rattle.std.proofs.Common.{rules}
use Rattle.readings_run.proofs.loading.line_ended.Goals as goal

pub returns-then-n-eq0 : goal.returns-then-n-eq0
returns-then-n-eq0 c = no_text c.if-n-eq0.true

pub returns-then-text-n : goal.returns-then-text-n
returns-then-text-n c = no_room c.if-text-n.true

pub returns-then-text-n-eq10 : goal.returns-then-text-n-eq10
returns-then-text-n-eq10 c =
    was_ended c.args.text.now c.if-n-eq0.false c.if-text-n.false c.if-text-n-eq10.true

pub returns : goal.returns
returns c =
    now_ended c.args.text.now c.if-n-eq0.false c.if-text-n.false c.if-text-n-eq10.false
