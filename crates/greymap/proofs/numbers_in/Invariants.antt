-- The loop has read a number for each line before this one.
use Rattle.greymap.proofs.Numbered.{Listing}
use Rattle.greymap.proofs.numbers_in.Given as goal

abbrev pub invariant-loop-number : goal.invariant-loop-number
invariant-loop-number l = Listing l.text l.at l.number-index l.number-items
