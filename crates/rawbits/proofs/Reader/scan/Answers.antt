-- `Reader::scan` meets its contract.
use Rattle.std.proofs.Common.{refl}
use Rattle.rawbits.specs.Eight.{says_right}
use Rattle.rawbits.proofs.Eights.{table-right}
use Rattle.rawbits.proofs.Scanning.{scans-first, scans-next, scans-told, scans-end, nothing_true, nothing_false}
use Rattle.rawbits.proofs.Reader.scan.Goals as goal
use Rattle.rawbits.proofs.Reader.scan.Goals.{in-Nothing, in_default}

pub loop-i-init : goal.loop-i-init
unfolding says_right
loop-i-init c = (table-right _ refl refl, scans-first _ _)

pub octet-next-requires : goal.octet-next-requires
octet-next-requires c = c.loop-i.invariant.0

pub returns-then-not-matches : goal.returns-then-not-matches
returns-then-not-matches c =
    scans-told c.loop-i.invariant.1 c.loop-i-test.true c.octet-next.ensures
    (elim c.match-matches.branch [ in-Nothing w ↦ nothing_true w.in-Nothing.is w.matches-is | in_default w ↦ nothing_false _ w.in_default.not-Nothing w.matches-is ]) c.if-not-matches.true

pub loop-i-preserved : goal.loop-i-preserved
loop-i-preserved c = (
  c.loop-i.invariant.0,
  scans-next c.loop-i.invariant.1 c.loop-i-test.true c.octet-next.ensures
      (elim c.match-matches.branch [ in-Nothing w ↦ nothing_true w.in-Nothing.is w.matches-is | in_default w ↦ nothing_false _ w.in_default.not-Nothing w.matches-is ]) c.if-not-matches.false,
)

pub returns : goal.returns
returns c = scans-end c.loop-i.invariant.1 c.loop-i.auto.i-end c.loop-i-test.false
