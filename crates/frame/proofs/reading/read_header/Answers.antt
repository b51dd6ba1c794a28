-- Each return passes the refusals before it.
use Rattle.std.proofs.Common.{arith, sym, ◌∙◌}
use Rattle.frame.proofs.Reader.{blamed_at, destination-refused, source-refused, control_refused, protocol_refused, header-right}
use Rattle.frame.proofs.reading.read_header.Goals as goal

pub returns-in-Some : goal.returns-in-Some
returns-in-Some c = destination-refused _ _ c.first_wrong.ensures c.in-Some.is

pub overflow_add-result : goal.overflow_add-result
overflow_add-result c = let w = blamed_at _ _ (sym c.in-Some-first_wrong.is ∙ c.first_wrong-2.ensures) in omega (arith, w.below)

pub returns-in-Some-first_wrong : goal.returns-in-Some-first_wrong
returns-in-Some-first_wrong c =
    source-refused _ _ c.first_wrong.ensures c.in_default.is c.first_wrong-2.ensures c.in-Some-first_wrong.is

pub returns-then-s-ne-CONTROL : goal.returns-then-s-ne-CONTROL
returns-then-s-ne-CONTROL c =
    control_refused _ _ c.first_wrong.ensures c.in_default.is c.first_wrong-2.ensures c.in_default-first_wrong.is c.if-s-ne-CONTROL.true

pub returns-then-s : goal.returns-then-s
returns-then-s c =
    protocol_refused _ _ c.first_wrong.ensures c.in_default.is c.first_wrong-2.ensures c.in_default-first_wrong.is
    c.if-s-ne-CONTROL.false c.if-s.true

pub returns : goal.returns
returns c =
    header-right _ _ c.first_wrong.ensures c.in_default.is c.first_wrong-2.ensures c.in_default-first_wrong.is
    c.if-s-ne-CONTROL.false c.if-s.false c.read_information.ensures
