-- `greymap::draw` meets its contract. The loop has drawn the first n lines.
use Rattle.greymap.proofs.Shown.{Drawing}
use Rattle.greymap.proofs.draw.Given as goal

abbrev pub invariant-loop-n : goal.invariant-loop-n
invariant-loop-n l = Drawing l.image l.lines l.initial.grey l.n l.grey
