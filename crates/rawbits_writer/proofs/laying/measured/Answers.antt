use Rattle.std.proofs.Common.{arith}
use Rattle.rawbits_writer.proofs.Counting.{measures_first, measures_few, measures_next, measures_end}
use Rattle.rawbits_writer.proofs.laying.measured.Goals as goal

pub loop-octet-init : goal.loop-octet-init
loop-octet-init c = measures_first _

pub overflow_add-count : goal.overflow_add-count
overflow_add-count c =
    let t = c.loop-octet.invariant in
    record {
      fits = omega (
        arith,
        t.few,
        t.inside,
        c.requires,
        c.from-count.ensures,
        measures_few t (omega arith) c.new.ensures c.octet-pen.ensures,
      );
    }

pub loop-octet-preserved : goal.loop-octet-preserved
loop-octet-preserved c = rw c.from-count.ensures (measures_next c.loop-octet.invariant (omega arith) c.new.ensures c.octet-pen.ensures)

pub returns : goal.returns
returns c = measures_end c.loop-octet.invariant (omega arith)
