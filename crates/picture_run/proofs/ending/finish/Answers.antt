-- `picture_run::ending::finish` meets its contract.
use Rattle.image.specs.Line.{image_of}
use Rattle.picture_run.proofs.Whole.{was_broken, had_none, had_some}
use Rattle.picture_run.proofs.ending.finish.Goals as goal

pub returns-then-broken : goal.returns-then-broken
returns-then-broken c =
    let a = c.args in
    let i = image_of a.pixels.now a.numbers.now in
    was_broken a.lines a.wanted a.stopped i a.images.now c.none.ensures c.broken.ensures
    c.if-broken.true

pub returns-then-none_received : goal.returns-then-none_received
returns-then-none_received c =
    let a = c.args in
    let i = image_of a.pixels.now a.numbers.now in
    had_none a.lines a.wanted a.stopped i a.images.now c.none.ensures c.broken.ensures c.if-broken.false
    c.none_received.ensures c.if-none_received.true c.instead.ensures

pub returns : goal.returns
returns c =
    let a = c.args in
    let i = image_of a.pixels.now a.numbers.now in
    had_some a.lines a.wanted a.stopped i a.images.now c.none.ensures c.broken.ensures c.if-broken.false
    c.none_received.ensures c.if-none_received.false c.show-ended.ensures
