-- `summary_pen::pen::say` meets its contract. The loop has said the octets up to one.
use borrow.Author.Rules.{rules}
use Rattle.summary_pen.proofs.Saying.{none, say_on, say_end}
use Rattle.summary_pen.proofs.pen.say.Goals as goal

pub loop-c-init : goal.loop-c-init
loop-c-init c = none _

pub loop-c-preserved : goal.loop-c-preserved
loop-c-preserved c =
    let l = c.loop-c in
    say_on c.args.words.now l.c-index (search rules) l.invariant c.octet-pen.ensures

pub returns : goal.returns
returns c = say_end c.args.words.now c.loop-c.c-index (search rules) c.loop-c.invariant
