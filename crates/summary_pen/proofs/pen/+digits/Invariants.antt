-- `summary_pen::pen::digits` calls itself with a smaller number.
use Rattle.summary_pen.proofs.pen.+digits.Given as goal

abbrev pub decreases-digits : goal.decreases-digits
decreases-digits l = l.n
