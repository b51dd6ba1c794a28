-- `last` stops at the first section that is not whole.
use Rattle.std.proofs.Common.{◌-◌, ◌≤◌, length, drop, sym, refl, ◌∙◌, arith, length-drop, rules}
use Rattle.faults.specs.Why.{stops_at}
use Rattle.faults.proofs.Stopping.{Before, stops-empty, used-inside, used-more, stops, turns}
use Rattle.faults.proofs.last.Statement.{statement}
use Rattle.faults.proofs.last.Tie as tie

abbrev invariant-loop : tie.invariant-loop-at
invariant-loop window reader₀ at₀ reader at =
    (at ≤ length window) × Before (stops_at (length window) reader₀ window) reader (drop at window)

abbrev decreases-loop : tie.decreases-loop-at
decreases-loop window reader₀ at₀ reader at = length window - at

loop-holds : tie.Need-loop-at-init invariant-loop decreases-loop
loop-holds c = (search rules, record { most = length c.args.window.now; same = refl; bound = search rules })

returns : tie.Need-returns-then-not-whole invariant-loop decreases-loop
returns c =
    let k = c in
    stops k.args.window.now k.loop-at.at _ _ c.scan-scanned.ensures k.loop-at.invariant.1
    (sym c.whole.ensures ∙ c.if-not-whole.true)

add_at : tie.Need-overflow_add-at invariant-loop decreases-loop
add_at c =
    let c3 = c in
    let k = c3 in
    let i = used-inside k.args.window.now k.loop-at.at _ _ c3.scan-scanned.ensures k.loop-at.invariant.0 in
    search (rules, i)

loop-less : tie.Need-loop-at-smaller invariant-loop decreases-loop
loop-less c =
    let k = c in
    let e = c.scan-scanned.ensures in
    let i = used-inside k.args.window.now k.loop-at.at _ _ e k.loop-at.invariant.0 in
    let m =
    used-more k.args.window.now k.loop-at.at _ _ e
    (sym c.whole.ensures ∙ c.if-not-whole.false) in
    omega (arith, i, m)

loop-again : tie.Need-loop-at-preserved invariant-loop decreases-loop
loop-again c =
    let c3 = c in
    let c5 = c3 in
    let k = c5 in
    let e = c3.scan-scanned.ensures in (
      used-inside k.args.window.now k.loop-at.at _ _ e k.loop-at.invariant.0,
      turns k.args.window.now k.loop-at.at _ _ e k.loop-at.invariant.1 c5.loop-at-test.true
          (sym c.whole.ensures ∙ c.if-not-whole.false),
    )

returns-2 : tie.Need-returns invariant-loop decreases-loop
returns-2 c =
    let k = c in
    let w = k.args.window.now in
    let b = k.loop-at.invariant.1 in
    sym (b.same ∙ stops-empty b.most _ (drop k.loop-at.at w) (omega (arith, c.loop-at-test.false, length-drop k.loop-at.at w)))

pub last_spec : {M : Type 1} → statement M
last_spec =
    tie.close
    (tie.spec
    invariant-loop decreases-loop loop-holds (λ c. search rules) (λ c. search rules) (λ c. search rules) (λ c κs. search rules)
    (λ c κs. search rules) returns add_at loop-less loop-again returns-2)
