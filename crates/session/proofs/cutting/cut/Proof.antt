-- `cutting::cut` meets its contract. The loop has cut some packets, and written their lengths and first numbers.
use Prim.Native.Nat.{◌+◌, ◌-◌}
use native.Mathlib.Omega.{arith}
use borrow.Author.Rules.{rules}
use mathlib.Core.Path.{◌≡◌}
use lib.ListN.{length}
use Rattle.session.proofs.Fitting.{within}
use Rattle.session.proofs.Going.{Going, Turn, going_start, lengths-same, firsts_same, turn, stops-wrong, stops-part, stops-short}
use Rattle.session.proofs.cutting.cut.Statement.{statement}
use Rattle.session.proofs.cutting.cut.Tie as tie

abbrev invariant-loop : tie.invariant-loop-at
invariant-loop first arrival held «data» lengths₀ firsts₀ all from₀ packets₀ at₀ lengths firsts from packets at =
    Going first arrival held «data» lengths₀ firsts₀ lengths firsts from packets at

abbrev decreases-loop : tie.decreases-loop-at
decreases-loop first arrival held «data» lengths₀ firsts₀ all from₀ packets₀ at₀ lengths firsts from packets at = length held + length «data» - at

abbrev start : tie.At-loop-at invariant-loop decreases-loop → tie.Start invariant-loop decreases-loop
start c = c.before.before.before.before.before

loop-holds : tie.Need-loop-at-init invariant-loop decreases-loop
loop-holds c =
    let a = c.args in
    going_start a.first a.arrival a.held.now a.«data».now a.lengths.now a.firsts.now

-- neither list has another length
same : (c : tie.At-loop-at invariant-loop decreases-loop) → length c.loop-at.lengths ≡ length (start c).args.lengths.now
same c = lengths-same _ _ _ _ _ _ _ _ _ _ _ c.loop-at.invariant

same_numbers : (c : tie.At-loop-at invariant-loop decreases-loop) → length c.loop-at.firsts ≡ length (start c).args.firsts.now
same_numbers c = firsts_same _ _ _ _ _ _ _ _ _ _ _ c.loop-at.invariant

returns : tie.Need-returns-then-n invariant-loop decreases-loop
returns c =
    let n = c.length_at-n in
    stops-wrong _ _ _ _ _ _ _ _ _ _ _ c.loop-at.invariant n.result n.ensures (search rules) c.if-n.true

returns-2 : tie.Need-returns-then-all-at invariant-loop decreases-loop
returns-2 c =
    let c4 = c in
    let n = c.length_at-n in
    stops-part _ _ _ _ _ _ _ _ _ _ _ c4.loop-at.invariant n.result n.ensures (search rules) (within n.result c.if-n.false)
    c.if-all-at.true

-- what a turn knows
abbrev Turns : tie.Else-all-at invariant-loop decreases-loop → Type 0
Turns c =
    let c4 = c.before.before.before.before in
    let a = (start c4).args in
    let l = c4.loop-at in
    Turn a.first a.arrival a.held.now a.«data».now a.lengths.now a.firsts.now l.lengths l.firsts l.from
    l.packets l.at c.length_at-n.result

turns : (c : tie.Else-all-at invariant-loop decreases-loop) → Turns c
turns c =
    let c4 = c.before.before.before.before in
    let n = c.length_at-n in
    turn _ _ _ _ _ _ _ _ _ _ _ c4.loop-at.invariant n.result n.ensures (start c4).requires (within n.result c.if-n.false)
    c.if-all-at.false

returns-3 : tie.Need-returns invariant-loop decreases-loop
returns-3 c = stops-short _ _ _ _ _ _ _ _ _ _ _ c.loop-at.invariant (search rules)

pub cut_spec : {M : Type 1} → statement M
cut_spec =
    tie.close
    (tie.spec
    invariant-loop decreases-loop (λ c. search rules) loop-holds (λ c. c.loop-at.invariant.within) (λ c κs. search rules)
    (λ c. omega (arith, c.loop-at.invariant.small)) (λ c. same c.before.before.before)
    (λ c. same_numbers c.before.before.before) returns (λ c. c.loop-at.invariant.within)
    (λ c. omega (arith, c.loop-at.invariant.small)) (λ c. same c.before.before.before.before)
    (λ c. same_numbers c.before.before.before.before) returns-2
    (λ c. omega (arith, (turns c).greatest)) (λ c. omega (arith, (turns c).room)) (λ c. (turns c).room) (λ c. omega (arith, (turns c).numbers))
    (λ c. (turns c).numbers)
    (λ c. omega (arith, (turns c).room)) (λ c. omega (arith, (turns c).inside)) (λ c. omega (arith, (turns c).inside, (turns c).least))
    (λ c. (turns c).on)
    (λ c. same c.before) (λ c. same_numbers c.before) returns-3)
