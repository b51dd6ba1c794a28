use Rattle.std.proofs.Common.{arith, rules}
use Rattle.sender.proofs.Loop.{so_far_none, place_inside, end-inside, frameable, x_small, index, place-fits, end_fits, begun}
use Rattle.sender.proofs.Loop.{within, so_far_more, so_far_all}
use Rattle.sender.proofs.laying.lay.Goals as goal

pub loop-k-init : goal.loop-k-init
loop-k-init c = so_far_none _ _ _

pub overflow_sub-packets : goal.overflow_sub-packets
overflow_sub-packets c = place_inside c.requires c.loop-k.invariant

pub overflow_sub-place : goal.overflow_sub-place
overflow_sub-place c = c.loop-k.invariant.first.behind

pub slice_bounds-write-count : goal.slice_bounds-write-count
slice_bounds-write-count c = end-inside c.requires c.loop-k.invariant

pub slice_bounds-write-start : goal.slice_bounds-write-start
slice_bounds-write-start c = let h = end-inside c.requires c.loop-k.invariant in search rules

pub slice_bounds-write-end : goal.slice_bounds-write-end
slice_bounds-write-end c = let h = end-inside c.requires c.loop-k.invariant in search rules

pub write-length-requires : goal.write-length-requires
write-length-requires c = frameable c.requires c.loop-k.invariant (omega arith) c.min-n.ensures

pub overflow_cast-frames : goal.overflow_cast-frames
overflow_cast-frames c =
    record { fits = x_small c.requires c.loop-k.invariant (omega arith) c.min-n.ensures c.write-length.ensures }

pub bounds-frames-k : goal.bounds-frames-k
bounds-frames-k c = index c.requires c.loop-k.invariant (omega arith) c.min-n.ensures

pub overflow_add-at : goal.overflow_add-at
overflow_add-at c = record { fits = omega (arith, place-fits c.requires c.loop-k.invariant (omega arith) c.min-n.ensures) }

pub overflow_add-end : goal.overflow_add-end
overflow_add-end c =
    record {
      fits = omega (
        arith,
        end_fits c.requires c.loop-k.invariant (omega arith) c.min-n.ensures c.write-length.ensures,
        c.well_formed,
      );
    }

pub behind-next-requires : goal.behind-next-requires
behind-next-requires c =
    record {
      begun = begun c.requires c.loop-k.invariant (omega arith) c.min-n.ensures;
      within = within c.requires c.loop-k.invariant (omega arith) c.min-n.ensures (search rules);
    }

pub loop-k-preserved : goal.loop-k-preserved
loop-k-preserved c =
    so_far_more c.requires c.loop-k.invariant (omega arith) c.min-n.ensures c.write-length.ensures
    c.next_count-all.ensures c.next_count-own.ensures c.behind-next.ensures

pub returns : goal.returns
returns c = so_far_all c.requires c.loop-k.invariant (omega arith)
