use Rattle.std.proofs.Common.{arith, rules}
use Rattle.std.proofs.lemmas.Result.{err_from_is_err_and}
use Rattle.kiss_writer.proofs.Refusing.{good-first, good-fits, good-next, good-bad, good-end}
use Rattle.kiss_writer.proofs.first_bad.Goals as goal

pub loop-length-init : goal.loop-length-init
loop-length-init c = good-first _ _ _

pub overflow_add-end : goal.overflow_add-end
overflow_add-end c = record { fits = omega (arith, c.from.ensures, good-fits c.loop-length.invariant c.requires (omega arith)) }

pub slice_bounds-read-end : goal.slice_bounds-read-end
slice_bounds-read-end c =
    let h = good-fits c.loop-length.invariant c.requires (omega arith) in
    let e = c.from.ensures in search rules

pub returns-in_err-read : goal.returns-in_err-read
returns-in_err-read c =
    let p = err_from_is_err_and c.from_residual.result c.from_residual.ensures.1 in
    rw (p.1, p.2)
    (good-bad c.loop-length.invariant (omega arith) _ _ (rw c.from.ensures at c.read.ensures) c.in_err-read.was)

pub loop-length-preserved : goal.loop-length-preserved
loop-length-preserved c =
    rw c.from.ensures (good-next c.loop-length.invariant (omega arith) _ _ (rw c.from.ensures at c.read.ensures) c.in_ok-read.was)

pub returns : goal.returns
returns c = good-end c.loop-length.invariant (omega arith)
