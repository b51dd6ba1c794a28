use native.Mathlib.Omega.{arith}
use mathlib.Core.Path.{◌≡◌, ap, ◌∙◌}
use Prim.Native.Nat.{◌<◌}
use lib.ListN.{length, length-take}
use Rattle.std.proofs.lemmas.List.{get_or-take}
use Rattle.octets.specs.Numbers.{at}
use Rattle.octets.specs.Parts.{part}
use Rattle.audit_rows.proofs.Frames.{none_done, one-done, all_done}
use Rattle.audit_rows.proofs.Audit.packets.Goals as goal

pub loop-length-init : goal.loop-length-init
loop-length-init c = none_done _ _ _ _ _ _

pub overflow_add-from : goal.overflow_add-from
overflow_add-from c =
    omega (arith, c.loop-length.invariant.near, c.loop-length.invariant.most, c.ranges)

pub loop-length-preserved : goal.loop-length-preserved
loop-length-preserved c =
    let k = c.loop-length.length-index in
    let there : k < length c.args.lengths.now = omega (arith, length-take c.min-n.result c.args.lengths.now) in
    let known : k < c.args.packets = omega (arith, length-take c.min-n.result c.args.lengths.now) in
    let same : c.from-size.result ≡ at c.args.lengths.now k =
    c.from-size.ensures ∙ get_or-take c.min-n.result c.args.lengths.now k 0 (omega (arith, length-take c.min-n.result c.args.lengths.now)) in
    rw same
    (one-done _ _ _ _ _ _ _ k c.loop-length.invariant known there (omega (arith, c.type_inv.lengths k))
    (c.part.ensures ∙ ap (part c.args.octets.now c.loop-length.from) same) c.beside-audit.ensures)

pub returns : goal.returns
returns c = all_done _ _ _ _ _ _ _ _ c.loop-length.invariant (omega (arith, length-take c.min-n.result c.args.lengths.now))
