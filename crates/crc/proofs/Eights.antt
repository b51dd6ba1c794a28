-- A loop over octets, eight at a time, by a number whose 64 bits stand for all that passed.
use mathlib.Core.Path.{◌≡◌, refl, sym, ap, ap₂, ◌∙◌}
use mathlib.Core.Bool.{Bool}
use mathlib.Core.List.{List}
use Prim.Native.Nat.{ℕ, ◌+◌, ◌-◌, ◌*◌, ◌/◌, ◌%◌, ◌≤◌, ◌<◌}
use native.Mathlib.Omega.{arith}
use lib.ListN.{length, take, drop}
use lib.Seq.{take-add}
use lib.Bits.{bit_xor}
use Rattle.bits.specs.Rows.{plus, zeros, bits_of, bits_of_all}
use Rattle.crc.specs.Check.{run, register}
use Rattle.bits.specs.Rows.Order.{low_first}
use Rattle.crc.proofs.Register.{Z, plus_Z, apart}
use Rattle.bits.proofs.Numbers.{length-bits}
use Rattle.crc.proofs.Octets.{register-append, length-register}
use Rattle.crc.proofs.Low.{after, after_linear}

-- i octets have passed, eight at a time: from all zeros, the bits of s leave in the register what it has after them
pub record Stands (octets : List ℕ) (i s : ℕ) : Type 0 where
  pub inside : i ≤ length octets
  pub eights : i % 8 ≡ 0
  pub holds : after 64 s ≡ register low_first (take i octets)

-- eight more: t stands for those before, with 64 zeros behind them, and e for the eight
pub stands-more : (octets : List ℕ) (i t e : ℕ) → i + 8 ≤ length octets → i % 8 ≡ 0
    → after 64 t ≡ run (register low_first (take i octets)) (zeros 64)
    → bits_of low_first 64 e ≡ bits_of_all low_first (take 8 (drop i octets)) → Stands octets (i + 8) (bit_xor t e)
stands-more octets i t e h m p q =
    let r : List Bool = register low_first (take i octets) in
    record {
      inside = h;
      eights = omega arith;
      holds =
          after_linear 64 t e
          ∙ ap (λ (x : List Bool). plus x (after 64 e)) p
          ∙ sym (apart r Z (bits_of low_first 64 e) 64 (length-register low_first (take i octets)) refl (length-bits low_first 64 e))
          ∙ ap₂ run (plus_Z r (length-register low_first (take i octets))) q
          ∙ sym (ap (register low_first) (take-add i 8 octets) ∙ register-append low_first (take i octets) (take 8 (drop i octets)));
    }

-- the octets, all but the last length % 8 of them
abbrev whole : List ℕ → List ℕ
whole octets = take (length octets / 8 * 8) octets

-- fewer than eight are left
pub stands-all : {octets : List ℕ} {i s : ℕ} → Stands octets i s → length octets - i < 8 → after 64 s ≡ register low_first (whole octets)
stands-all {octets} {i} p h =
    let n : i ≡ length octets / 8 * 8 = omega arith in
    p.holds ∙ ap (λ (k : ℕ). register low_first (take k octets)) n

-- there were fewer than eight
pub stands-none : (octets : List ℕ) → length octets < 8 → bits_of low_first 16 0xffff ≡ register low_first (whole octets)
stands-none octets h =
    let n : 0 ≡ length octets / 8 * 8 = omega arith in
    ap (λ (k : ℕ). register low_first (take k octets)) n
