use Rattle.std.proofs.Common.{[], ◌*◌, take, ◌≡◌, length}
use Rattle.decimal.specs.Text.{longest_number, each}
use Rattle.decimal.specs.Laid.{Laid}
use Rattle.decimal.proofs.numbers.Given as goal

abbrev pub invariant-loop-n : goal.invariant-loop-n
invariant-loop-n l =
    (length l.out ≡ length l.initial.out) × Laid (longest_number * l.n-index) (each l.after (take l.n-index l.list) []) l.initial.out
    l.at l.out l.next
