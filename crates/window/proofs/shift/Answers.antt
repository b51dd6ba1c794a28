-- `window::shift` meets its contract.
use Rattle.std.proofs.Common.{take, ap, ◌∙◌, arith, length-drop}
use Rattle.window.proofs.Moves.{moved, none-moved}
use Rattle.window.proofs.shift.Goals as goal

pub overflow_add-at : goal.overflow_add-at
overflow_add-at c = omega (arith, length-drop c.args.at c.args.input.now)

pub copy_within-requires : goal.copy_within-requires
copy_within-requires c = record {
  start_le_end = omega arith;
  in_bounds = omega (arith, length-drop c.args.at c.args.input.now);
  dest_in_bounds = omega (arith, length-drop c.args.at c.args.input.now);
  not_exhausted = tt;
}

pub returns-then-n-ne0 : goal.returns-then-n-ne0
returns-then-n-ne0 c = ap (take c.args.n) c.copy_within.ensures.after ∙ moved _ _ _ c.requires

pub returns-else-n-ne0 : goal.returns-else-n-ne0
returns-else-n-ne0 c = none-moved _ _ _ c.if-n-ne0.false
