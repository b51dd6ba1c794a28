-- `packets::all` meets its contract. The loop has counted the packets of the lengths up to one.
use Prim.Native.Nat.{ℕ, ◌≤◌, ◌<◌, min}
use native.Mathlib.Omega.{arith}
use mathlib.Core.Path.{◌≡◌, ◌∙◌}
use lib.ListN.{length, take}
use lib.Seq.{length-take-le, get_or-take}
use Rattle.octets.specs.Numbers.{at}
use Rattle.summary_count.proofs.Handing.{none-counted, one-counted, all-listed}
use Rattle.summary_count.proofs.packets.all.Goals as goal

pub loop-n-init : goal.loop-n-init
loop-n-init c = none-counted _ _ _ _

pub overflow_add-to : goal.overflow_add-to
overflow_add-to c = omega (arith, c.from-in-loop-n.ensures, c.type_inv.n, c.loop-n.invariant.near, c.loop-n.invariant.most, c.ranges)

pub loop-n-preserved : goal.loop-n-preserved
loop-n-preserved c =
    let i = c.loop-n.n-index in
    let all = c.args.lengths.now in
    let n = c.from-in-loop-n.result in
    let long : length (take c.min.result all) ≡ c.min.result = length-take-le c.min.result all (omega (arith, c.min.ensures)) in
    let here : i < c.min.result = omega (arith, long, c.loop-n-test.true) in
    let first : n ≡ at all i = c.from-in-loop-n.ensures ∙ get_or-take c.min.result all i 0 here in
    let small : n ≤ 65535 = omega (arith, c.type_inv.lengths i) in
    one-counted _ _ _ _ _ i _ c.loop-n.invariant first (omega (arith, c.min.ensures, c.from.ensures)) (omega (arith, c.min.ensures)) small
    c.hand.ensures c.one.ensures

pub returns : goal.returns
returns c =
    let all = c.args.lengths.now in
    let long : length (take c.min.result all) ≡ c.min.result = length-take-le c.min.result all (omega (arith, c.min.ensures)) in
    all-listed _ _ _ _ _ _ _ c.loop-n.invariant (omega (arith, c.min.ensures, c.from.ensures))
