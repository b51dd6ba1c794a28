-- `telling::tell` is safe and ends.
use Rattle.std.proofs.Common.{◌+◌, ◌-◌, ◌<◌, ◌≤◌, length, arith, rules}
use Rattle.telling.proofs.Numbers.{next-behind}
use Rattle.telling.proofs.tell.Statement.{statement}
use Rattle.telling.proofs.tell.Tie as tie

abbrev invariant-loop : tie.invariant-loop-i
invariant-loop name counts what i₀ i = Unit {0}

abbrev decreases-loop : tie.decreases-loop-i
decreases-loop name counts what i₀ i = length counts - i

loop-less : tie.Need-loop-i-smaller invariant-loop decreases-loop
loop-less c =
    let i = c.loop-i.i in
    let l = c.args.counts.now in
    let behind : i + 1 ≤ c.next-i-in-loop-i.result = omega (arith, c.next-i-in-loop-i.ensures, next-behind l (i + 1)) in
    let less : length l - c.next-i-in-loop-i.result < length l - i = omega (arith, c.loop-i-test.true) in
    less

pub tell_spec : {M : Type 1} → statement M
tell_spec =
    tie.close
    (tie.spec
    invariant-loop decreases-loop (λ c κs. search rules) (λ c. search rules) (λ c. search rules) (λ c. search rules)
    (λ c κs. search rules) (λ c. search rules) (λ c κs. search rules) loop-less (λ c. search rules)
    (λ c. search rules))
