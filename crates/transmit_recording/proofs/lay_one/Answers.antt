-- `transmit_recording::lay_one` meets its contract.
use Rattle.std.proofs.Common.{length, ap, arith, ◌∙◌}
use Rattle.octets.specs.Parts.{part}
use Rattle.transmit_recording.proofs.Laying.{lays_none, lays_one, part-least}
use Rattle.transmit_recording.proofs.lay_one.Goals as goal

pub returns-then-n-ge-LOST : goal.returns-then-n-ge-LOST
returns-then-n-ge-LOST c = let a = c.args in lays_none a.rest.now a.n a.out.now a.to c.if-n-ge-LOST.true

pub returns : goal.returns
returns c =
    let a = c.args in
    lays_one a.rest.now a.n a.out.now a.to c.if-n-ge-LOST.false c.word_octets-length.ensures c.put.ensures
    (c.part-octets.ensures ∙ ap (part a.rest.now 0) c.from.ensures)
    c.put-2.ensures

pub overflow_add-result-2 : goal.overflow_add-result-2
overflow_add-result-2 c =
    omega (arith, ap length c.part-octets.ensures, part-least c.args.rest.now c.from.result, c.requires, c.well_formed.1.1.0)
