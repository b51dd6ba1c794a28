-- `export_kiss_run::turn` meets its contract.
use Rattle.std.proofs.Common.{ap, ◌∙◌, arith}
use borrow.Enum.Refused.{opened}
use Rattle.window.specs.Window.{hand}
use Rattle.export_kiss_run.specs.Turns.{Leads}
use Rattle.export_kiss_run.proofs.Turning.{scan-sound}
use Rattle.export_kiss_run.proofs.TurnLaws.{read-on, used-left, went_on}
use Rattle.export_kiss_run.proofs.turn.Goals as goal

pub returns-in-Missing : goal.returns-in-Missing
returns-in-Missing c =
    read-on c.args.both c.hand.ensures c.scan-scanned.ensures
    c.in-Missing.is c.more.ensures

pub overflow_add-from : goal.overflow_add-from
overflow_add-from c =
    let a = c.args in
    let g = c.well_formed in
    omega (arith, used-left a.state a.input.now c.hand.ensures c.scan-scanned.ensures, g.1.1.1.0, g.1.1.1.1.1.0)

pub section-led-requires : goal.section-led-requires
section-led-requires c =
    record {
      sound = scan-sound c.args.state.reader c.hand.ensures
          c.hand-2.ensures c.scan-scanned.ensures;
      room = c.requires;
    }

pub emit-written-requires : goal.emit-written-requires
emit-written-requires c =
    let a = c.args in
    record {
      both = a.both;
      t = a.state.t;
      frames = a.state.frames;
      found = c.scan-scanned.result.taken;
      w = c.hand-2.result.now;
      same = c.hand-3.ensures ∙ ap (hand c.section-led.new.out c.section-led.result.from) c.unwrap_or-to.ensures
          ∙ ap (λ (l : Leads). l.said) c.section-led.ensures;
    }

pub returns : goal.returns
returns c =
    let a = c.args in
    went_on a.state a.input.now c.hand.ensures
    c.scan-scanned.ensures a.both c.hand-2.ensures
    c.section-led.result c.section-led.new.out
    c.section-led.ensures c.wrapping_add_u64-passed.result
    (c.hand-3.ensures ∙ ap (hand c.section-led.new.out c.section-led.result.from) c.unwrap_or-to.ensures) c.emit-written.result
    c.emit-written.ensures c.failed-well.ensures c.is_err.ensures.value c.none-read.ensures
    (opened c.in_default.in_default-own.keys2)
