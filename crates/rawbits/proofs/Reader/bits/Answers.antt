-- `Reader::bits` meets its contract.
use borrow.Author.Rules.{rules}
use Rattle.rawbits.proofs.Turning.{turns-first, turns_next, turns-end}
use Rattle.rawbits.proofs.Reader.bits.Goals as goal

pub loop-init : goal.loop-init
loop-init c = turns-first _ _ (search rules)

pub loop-preserved : goal.loop-preserved
loop-preserved c = turns_next c.loop.invariant (search rules) c.loop-test.true (search rules) c.bit-next.ensures

pub returns : goal.returns
returns c = turns-end c.loop.invariant c.loop-test.false
