use Rattle.std.proofs.Common.{◌≡◌, arith}
use borrow.Author.Tests.{not-true, not-false}
use Rattle.window.specs.Turns.{most}
use Rattle.window.proofs.Looping.{stopped, all_made}
use Rattle.export_kiss_run.proofs.Whole.{not_gone, gone_on, begun}
use Rattle.export_kiss_run.proofs.turns.Goals as goal

pub loop-made-init : goal.loop-made-init
loop-made-init c = not_gone

pub returns-then-not-state : goal.returns-then-not-state
returns-then-not-state c =
    let g = c.loop-made.invariant in
    record {
      octets = g.octets;
      loops = begun c.args.input.now c.none-read.ensures c.none-written.ensures (stopped g.made (not-true _ c.if-not-state.true));
    }

pub loop-made-preserved : goal.loop-made-preserved
loop-made-preserved c = gone_on c.loop-made.invariant (not-false _ c.if-not-state.false) c.turn-state.ensures

pub returns : goal.returns
returns c =
    let g = c.loop-made.invariant in
    let all : c.loop-made.made ≡ most = omega arith in
    record {
      octets = g.octets;
      loops = begun c.args.input.now c.none-read.ensures c.none-written.ensures (rw all at (all_made g.made all));
    }
