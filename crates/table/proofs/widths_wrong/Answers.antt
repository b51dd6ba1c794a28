use Rattle.std.proofs.Common.{sym, ◌∙◌, arith}
use native.Mathlib.Nat.{sub-zero}
use Rattle.table.proofs.Columns.{width-bad, width-good, width-end}
use Rattle.table.proofs.widths_wrong.Goals as goal

pub loop-i-init : goal.loop-i-init
loop-i-init c = simp sub-zero

pub returns-then-width : goal.returns-then-width
returns-then-width c = sym (c.loop-i.invariant ∙ width-bad _ _ c.requires c.loop-i.i (omega arith) c.if-width.true)

pub loop-i-preserved : goal.loop-i-preserved
loop-i-preserved c = c.loop-i.invariant ∙ width-good _ _ c.requires c.loop-i.i (omega arith) c.if-width.false

pub returns : goal.returns
returns c = sym (c.loop-i.invariant ∙ width-end _ _ c.requires c.loop-i.i (omega arith))
