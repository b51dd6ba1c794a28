-- `listing::next` meets its contract.
use Prim.Native.Nat.{◌-◌}
use mathlib.Core.Path.{◌≡◌}
use lib.ListN.{length}
use native.Mathlib.Omega.{arith}
use borrow.Author.Rules.{rules}
use Rattle.listing.proofs.Handed.{few-packets, packets-there, frame-text, stepped-session, octets-long, lengths-long, numbers-long}
use Rattle.listing.proofs.Sofar.{Sofar, none_yet, turn_inside, less_header, less_nothing, less_offered, small-t, fits, stretch}
use Rattle.listing.proofs.Sofar.{on-header, on-nothing, on-offered, carried, stop-missing, stop-over, stop-bad, stop-full}
use Rattle.listing.proofs.next.Statement.{statement}
use Rattle.listing.proofs.next.Lts.{in-Opened, in-Nothing, in-Here}
use Rattle.listing.proofs.next.Tie as tie

abbrev invariant-loop : tie.invariant-loop-out
invariant-loop window kept₀ out₀ octets₀ lengths₀ firsts₀ source₀ session₀ at₀ size₀ kept out octets lengths firsts source session at size =
    Sofar source₀ session₀ kept₀ window out₀ kept out source session at size
    × (length octets ≡ 501) × (length lengths ≡ 16) × (length firsts ≡ 16)

abbrev decreases-loop : tie.decreases-loop-out
decreases-loop window kept₀ out₀ octets₀ lengths₀ firsts₀ source₀ session₀ at₀ size₀ kept out octets lengths firsts source session at size =
    length window - at

loop-holds : tie.Need-loop-out-init invariant-loop decreases-loop
loop-holds c = (none_yet _ _ _ _ _, search rules, search rules, search rules)

returns : tie.Need-returns-in-Missing invariant-loop decreases-loop
returns c =
    let s = c in
    let t = s in
    stop-missing t.loop-out.invariant.0 s.scan-scanned.ensures t.loop-out-test.true c.in-Missing.is c.stopped.ensures

returns-2 : tie.Need-returns-in-Over invariant-loop decreases-loop
returns-2 c =
    let s = c in
    let t = s in
    stop-over t.loop-out.invariant.0 s.scan-scanned.ensures t.loop-out-test.true c.in-Over.is c.stopped-in-Over.ensures

returns-3 : tie.Need-returns-in-Bad invariant-loop decreases-loop
returns-3 c =
    let b = c in
    let s = b in
    let t = s in
    stop-bad t.loop-out.invariant.0 s.scan-scanned.ensures t.loop-out-test.true b.in-Bad.is
    b.bad_line.ensures c.stopped-in-Bad.ensures

cast-open : tie.Need-overflow_cast-t invariant-loop decreases-loop
cast-open c =
    let s = c in
    omega (arith, small-t s.loop-out.invariant.0 s.scan-scanned.ensures c.in-Opened.is)

frame-lines-requires : tie.Need-frame_lines-size-requires invariant-loop decreases-loop
frame-lines-requires c κs =
    let o = c in
    let s = o in
    let t = s in
    let l = t.loop-out in
    let n = l.invariant in
    let x = stretch n.0 s.scan-scanned.ensures t.loop-out-test.true in
    let few = few-packets l.session x n.1 n.2 n.3 o.offer-stepped.ensures in
    let there = packets-there l.session x n.1 n.2 n.3 o.offer-stepped.ensures in
    let sizes = lengths-long l.session x n.1 n.2 n.3 o.offer-stepped.ensures in
    let numbers = numbers-long l.session x n.1 n.2 n.3 o.offer-stepped.ensures in
    (fits n.0 s.scan-scanned.ensures t.loop-out-test.true, (few, ((sizes, numbers), there)))

add_at : tie.Need-overflow_add-at invariant-loop decreases-loop
add_at c =
    let s = c in
    omega (arith, turn_inside s.loop-out.invariant.0 s.scan-scanned.ensures)

loop-less : tie.Need-loop-out-smaller invariant-loop decreases-loop
loop-less c =
    let s = c in
    let n = s.loop-out.invariant.0 in
    elim c.match-taken.branch [
      | in-Opened w ↦ less_header n s.scan-scanned.ensures w.in-Opened.is
      | in-Nothing w ↦ less_nothing n s.scan-scanned.ensures w.in-Nothing.is
      | in-Here w ↦ less_offered n s.scan-scanned.ensures w.in-Here.in-Here-own.keys6
    ]

loop-again : tie.Need-loop-out-preserved invariant-loop decreases-loop
loop-again c =
    let s = c in
    let t = s in
    let l = t.loop-out in
    let n = l.invariant in
    let x = stretch n.0 s.scan-scanned.ensures t.loop-out-test.true in
    elim c.match-taken.branch [
      | in-Opened w ↦
          carried w.out-is w.octets-is w.lengths-is w.firsts-is w.session-is w.size-is (
            on-header n.0 s.scan-scanned.ensures t.loop-out-test.true w.in-Opened.is w.header_line-size.ensures w.header_line-size.auto.out
                w.open-opened.ensures.session,
            n.1,
            n.2,
            n.3,
          )
      | in-Nothing w ↦
          carried w.out-is w.octets-is w.lengths-is w.firsts-is w.session-is w.size-is (
            on-nothing n.0 s.scan-scanned.ensures t.loop-out-test.true w.in-Nothing.is,
            n.1,
            n.2,
            n.3,
          )
      | in-Here w ↦
          carried w.out-is w.octets-is w.lengths-is w.firsts-is w.session-is w.size-is (
            on-offered n.0 s.scan-scanned.ensures t.loop-out-test.true w.in-Here.in-Here-own.keys6 w.frame_lines-size.ensures
                w.frame_lines-size.auto.out
                (frame-text l.session x n.1 n.2 n.3 w.offer-stepped.ensures)
                (stepped-session l.session x n.1 n.2 n.3 w.offer-stepped.ensures),
            octets-long l.session x n.1 n.2 n.3 w.offer-stepped.ensures,
            lengths-long l.session x n.1 n.2 n.3 w.offer-stepped.ensures,
            numbers-long l.session x n.1 n.2 n.3 w.offer-stepped.ensures,
          )
    ]

returns-4 : tie.Need-returns invariant-loop decreases-loop
returns-4 c = stop-full c.loop-out.invariant.0 c.loop-out-test.false c.stopped-2.ensures

pub next_spec : {M : Type 1} → statement M
next_spec =
    tie.close
    (tie.spec
    invariant-loop decreases-loop loop-holds (λ c. search rules) (λ c. search rules) (λ c. search rules) (λ c. search rules) (λ c κs. search rules)
    (λ c. search rules) (λ c κs. search rules) (λ c. search rules) returns
    (λ c. search rules) (λ c κs. search rules) (λ c. search rules) returns-2
    (λ c. search rules) (λ c κs. search rules) (λ c κs. search rules) (λ c. search rules) returns-3
    (λ c. search rules) cast-open (λ c κs. search rules) (λ c κs. search rules) (λ c. search rules)
    (λ c. search rules) (λ c. search rules) (λ c. search rules) (λ c. search rules) (λ c. search rules) (λ c. search rules)
    (λ c κs. search rules) (λ c. search rules) (λ c. search rules) (λ c. search rules) frame-lines-requires add_at loop-less loop-again
    (λ c κs. search rules) (λ c. search rules) returns-4)
