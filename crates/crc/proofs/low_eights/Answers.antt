use Rattle.std.proofs.Common.{arith, refl, ap, subst, ◌∙◌, ◌≡◌, ◌+◌, ◌*◌, ℕ, List, Bool}
use lib.Bits.{bit_xor}
use Rattle.bits.specs.Rows.{zeros}
use Rattle.crc.specs.Check.{run}
use Rattle.crc.proofs.Eights.{Stands, stands-more, stands-all}
use Rattle.crc.proofs.low_eights.Goals as goal

pub loop-k-init : goal.loop-k-init
loop-k-init c = stands-more _ 0 0xffff c.low_joined.result c.if-octets-lt8.false refl refl c.low_joined.ensures

pub loop-k-preserved : goal.loop-k-preserved
loop-k-preserved c =
    let l = c.loop-k in
    let on : 8 * l.k + 8 ≡ 8 * (l.k + 1) = omega arith in
    subst (λ (i : ℕ). Stands c.args.octets.now i (bit_xor c.low_zeros.result c.low_joined-in-loop-k.result)) on
    (stands-more _ (8 * l.k) c.low_zeros.result c.low_joined-in-loop-k.result (omega arith) l.invariant.eights
    (c.low_zeros.ensures ∙ ap (λ (r : List Bool). run r (zeros 64)) l.invariant.holds) c.low_joined-in-loop-k.ensures)

pub returns : goal.returns
returns c = c.low_bits.ensures ∙ stands-all c.loop-k.invariant (omega (arith, c.loop-k-test.false))
