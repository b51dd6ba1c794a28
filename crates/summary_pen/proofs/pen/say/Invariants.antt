-- `summary_pen::pen::say` meets its contract. The loop has said the octets up to one.
use lib.ListN.{take}
use Rattle.summary_pen.specs.Page.{page, Says}
use Rattle.summary_pen.proofs.pen.say.Given as goal

abbrev pub invariant-loop-c : goal.invariant-loop-c
invariant-loop-c l = Says (take l.c-index l.words) (page l.initial.out l.initial.pen) (page l.out l.pen)
