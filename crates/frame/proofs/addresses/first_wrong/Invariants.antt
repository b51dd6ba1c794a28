-- What is first wrong is what is first wrong of those that are left.
use Rattle.std.proofs.Common.{◌≡◌, ◌-◌}
use Rattle.frame.specs.Address.{wrong_behind, first_wrong}
use Rattle.frame.proofs.addresses.first_wrong.Given as goal

abbrev pub invariant-loop-i : goal.invariant-loop-i
invariant-loop-i l = wrong_behind l.s l.last l.i (5 - l.i) ≡ first_wrong l.s l.last
