use Rattle.std.proofs.Common.{arith, rules}
use Rattle.kiss_writer.proofs.Blocks.{fits, long, summing_first, summing_few, summing_next, summing_end}
use Rattle.kiss_writer.proofs.laying.all_escapes.Goals as goal

pub loop-length-init : goal.loop-length-init
loop-length-init c = summing_first c.requires

pub overflow_add-next : goal.overflow_add-next
overflow_add-next c = record { fits = omega (arith, c.from.ensures, fits c.loop-length.invariant.standing (omega arith)) }

pub overflow_sub-next : goal.overflow_sub-next
overflow_sub-next c = omega (arith, c.from.ensures, long c.loop-length.invariant.standing (omega arith))

pub slice_bounds-escapes-count : goal.slice_bounds-escapes-count
slice_bounds-escapes-count c = omega (arith, c.from.ensures, long c.loop-length.invariant.standing (omega arith))

pub slice_bounds-escapes-start : goal.slice_bounds-escapes-start
slice_bounds-escapes-start c =
    let e = c.from.ensures in
    let h = fits c.loop-length.invariant.standing (omega arith) in
    let m = long c.loop-length.invariant.standing (omega arith) in search rules

pub slice_bounds-escapes-end : goal.slice_bounds-escapes-end
slice_bounds-escapes-end c =
    let e = c.from.ensures in
    let h = fits c.loop-length.invariant.standing (omega arith) in
    let m = long c.loop-length.invariant.standing (omega arith) in search rules

pub overflow_add-count : goal.overflow_add-count
overflow_add-count c =
    record {
      fits = omega (
        arith,
        c.loop-length.invariant.few,
        summing_few c.loop-length.invariant (omega arith) _ (rw c.from.ensures at c.escapes-count.ensures),
        fits c.loop-length.invariant.standing (omega arith),
      );
    }

pub loop-length-preserved : goal.loop-length-preserved
loop-length-preserved c =
    rw c.from.ensures (summing_next c.loop-length.invariant (omega arith) _ (rw c.from.ensures at c.escapes-count.ensures))

pub returns : goal.returns
returns c = summing_end c.loop-length.invariant (omega arith)
