-- Both checks show damage: the register is linear, so what it has over the damaged octets differs by what it has over the changes alone.
use Prim.Native.Nat.{ℕ, ◌*◌, ◌≤◌}
use native.Mathlib.Omega.{arith}
use mathlib.Core.Path.{◌≡◌, refl, sym, ap, ◌∙◌}
use mathlib.Core.Bool.{Bool, true, false}
use mathlib.Core.List.{List}
use lib.ListN.{length}
use Rattle.bits.specs.Rows.{plus, zeros, ones, Order, bits_of, bits_of_all}
use Rattle.bits.proofs.Rows.{length-plus, plus_self, plus_twice}
use Rattle.bits.proofs.Numbers.{bits-number}
use Rattle.crc.specs.Check.{run, register, check, check_wrong}
use Rattle.crc.specs.Statements.{Octets}
use Rattle.crc.proofs.Register.{Z, run-plus}
use Rattle.crc.proofs.Octets.{length-bits-all, length-register}
use Rattle.crc.proofs.Ends.{same_test}
use Rattle.frame.specs.Limits.{greatest_length}
use Rattle.about_damage.specs.Damage.{changes, Damaged}
use Rattle.about_damage.specs.Worth.{CheckShows}
use Rattle.about_damage.proofs.Register.{shown}

module _ (o : Order) (was became : List ℕ) (same : length became ≡ length was) where
  as_long : length (bits_of_all o was) ≡ length (bits_of_all o became)
  as_long = length-bits-all o was ∙ ap (λ (n : ℕ). n * 8) (sym same) ∙ sym (length-bits-all o became)

  -- what the changes alone leave, from all zeros, is the sum of both registers
  pub changes-run : run Z (changes o was became) ≡ plus (register o was) (register o became)
  changes-run = run-plus (ones 16) (ones 16) (bits_of_all o was) (bits_of_all o became) refl refl as_long

  pub length-changes : length (changes o was became) ≡ length was * 8
  length-changes = length-plus (bits_of_all o was) (bits_of_all o became) as_long ∙ length-bits-all o was

-- equal checks are of equal registers
same-register : (o : Order) (m : List Bool) (xs ys : List ℕ) → length m ≡ 16 → check o m xs ≡ check o m ys → register o xs ≡ register o ys
unfolding check
same-register o m xs ys w e =
    sym (plus_twice (register o xs) m (length-register o xs ∙ sym w))
    ∙ ap (λ (r : List Bool). plus r m)
    (sym (bits-number o 16 (plus (register o xs) m) (masked xs)) ∙ ap (bits_of o 16) e ∙ bits-number o 16 (plus (register o ys) m)
    (masked ys))
    ∙ plus_twice (register o ys) m (length-register o ys ∙ sym w)
  where
    masked : (zs : List ℕ) → length (plus (register o zs) m) ≡ 16
    masked zs = length-plus (register o zs) m (length-register o zs ∙ sym w) ∙ length-register o zs

pub check-shows : CheckShows
check-shows o m was became w l d e =
    shown (changes o was became) (omega (arith, length-changes o was became d.same)) d.bits
    (changes-run o was became d.same
    ∙ ap (λ (r : List Bool). plus r (register o became)) (same-register o m was became w (sym e))
    ∙ plus_self (register o became) ∙ ap zeros (length-register o became))

-- a reader's test of the check, passed before, is not passed after
pub test_shows : (o : Order) (m : List Bool) (was became : List ℕ) → length m ≡ 16 → length was ≤ greatest_length → 2 ≤ length was
    → Damaged o was became → check_wrong o m was ≡ false → check_wrong o m became ≡ true
test_shows o m was became w l h d e = told (check_wrong o m became) refl
  where
    whole : Octets was
    whole = record { small = d.octets; two = h }

    others : Octets became
    others = record { small = d.others; two = omega (arith, d.same) }

    told : (b : Bool) → check_wrong o m became ≡ b → b ≡ true
    told true f = refl
    told false f =
        absurd (check-shows o m was became w l d ((same_test o m w became others).0 f ∙ sym ((same_test o m w was whole).0 e)))
