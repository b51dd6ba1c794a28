-- `audit_rows::Audit::turn` meets its contract.
use mathlib.Core.Path.{sym, ◌∙◌}
use native.Mathlib.Omega.{arith}
use Rattle.audit_rows.proofs.Reading.{used-left, turns-packet, turns-verdict, turns-rows, turns-end}
use Rattle.audit_rows.proofs.Audit.turn.Goals as goal

pub overflow_add-from : goal.overflow_add-from
overflow_add-from c =
    let a = c.args in
    omega (
      arith,
      used-left a.self a.rows.now a.packet.now a.arrival c.hand.ensures
          c.look-looked.ensures,
    )

pub returns-then-brought : goal.returns-then-brought
returns-then-brought c =
    let a = c.args in
    let looked = c.look-looked.ensures in
    let read = c.refill-read.ensures in
    turns-rows a.self a.rows.now a.packet.now a.arrival c.hand.ensures looked c.in-Rows.is
    read c.have-have.ensures (sym c.brought.ensures ∙ c.if-brought.true)

pub returns-in-Packet : goal.returns-in-Packet
returns-in-Packet c =
    let a = c.args in
    turns-packet a.self a.rows.now a.packet.now a.arrival c.hand.ensures c.look-looked.ensures c.in-Packet.is

pub returns-in-Nothing : goal.returns-in-Nothing
returns-in-Nothing c =
    let a = c.args in
    turns-verdict a.self a.rows.now a.packet.now a.arrival c.hand.ensures c.look-looked.ensures
    c.in-Nothing.is
    c.stopped.ensures

pub returns-else-brought : goal.returns-else-brought
returns-else-brought c =
    let a = c.args in
    let looked = c.look-looked.ensures in
    let read = c.refill-read.ensures in
    let none = sym c.brought.ensures ∙ c.if-brought.false in
    turns-end a.self a.rows.now a.packet.now a.arrival c.hand.ensures looked c.in-Rows.is
    read c.have-have.ensures none c.hand-in-Rows.ensures c.end-verdict.ensures c.stopped-in-Rows.ensures
