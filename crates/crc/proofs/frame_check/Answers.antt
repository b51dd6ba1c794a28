use Rattle.std.proofs.Common.{arith, sym, ◌∙◌, ap, subst, ℕ, ◌≡◌, ◌+◌, ◌-◌, ◌*◌, ◌/◌, List, length, take, drop, get_or, length-drop, add_assoc}
use native.Mathlib.Nat.{add-zero}
use lib.Dec.{lit<}
use lib.Seq.{get_or-drop, take_all}
use Rattle.bits.specs.Rows.{bits_of}
use Rattle.bits.specs.Rows.Order.{low_first}
use Rattle.crc.specs.Check.{run, register}
use Rattle.crc.proofs.Passed.{Passed, passed-more, passed-all}
use Rattle.crc.proofs.frame_check.Goals as goal

-- the octets from index k on
behind : (octets : List ℕ) (k : ℕ) → take (length octets - k) (drop k octets) ≡ drop k octets
behind octets k = take_all _ _ (omega (arith, length-drop k octets))

many : (octets : List ℕ) (k : ℕ) → length (take (length octets - k) (drop k octets)) ≡ length octets - k
many octets k = ap length (behind octets k) ∙ length-drop k octets

octet : (octets : List ℕ) (k j : ℕ) → get_or (take (length octets - k) (drop k octets)) j 0 ≡ get_or octets (k + j) 0
octet octets k j = ap (λ (l : List ℕ). get_or l j 0) (behind octets k) ∙ get_or-drop k octets j 0

pub loop-x-init : goal.loop-x-init
loop-x-init c =
    let octets = c.args.octets.now in
    record {
      holds =
          record {
            fits = omega arith;
            bits = c.low_eights-crc.ensures ∙ ap (λ (n : ℕ). register low_first (take n octets)) (sym (add-zero (length octets / 8 * 8)));
          };
    }

pub loop-x-preserved : goal.loop-x-preserved
loop-x-preserved c =
    let octets = c.args.octets.now in
    let l = c.loop-x in
    let k : ℕ = length octets / 8 * 8 in
    let t = c.low_octet-crc.result in
    subst (λ (n : ℕ). Passed low_first octets n t) (add_assoc k l.x-index 1)
    (passed-more l.invariant (omega (arith, many octets k, c.loop-x-test.true))
    (record {
      fits = omega arith;
      bits = c.low_octet-crc.ensures ∙ ap (λ (x : ℕ). run (bits_of low_first 16 l.crc) (bits_of low_first 8 x)) (octet octets k l.x-index);
    }))

pub returns : goal.returns
returns c =
    let octets = c.args.octets.now in
    passed-all c.loop-x.invariant 0xffff (omega (arith, many octets (length octets / 8 * 8), c.loop-x-test.false)) (lit< tt)
