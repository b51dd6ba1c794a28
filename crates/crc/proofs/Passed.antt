-- A loop over octets, one at a time.
use mathlib.Core.Path.{◌≡◌, sym, ap, ◌∙◌}
use mathlib.Core.Bool.{Bool}
use mathlib.Core.List.{List}
use Prim.Native.Nat.{ℕ, ◌+◌, ◌^◌, ◌≤◌, ◌<◌}
use lib.ListN.{length, get_or, take}
use lib.Seq.{take_all}
use lib.Bits.{bit_xor, xor_lt}
use Rattle.bits.specs.Rows.{plus, Order, bits_of, number_of}
use Rattle.crc.specs.Check.{run, register, check}
use Rattle.bits.proofs.Numbers.{number-bits, bits_xor}
use Rattle.crc.proofs.Octets.{register-more}
use Rattle.crc.proofs.Turn.{Holds}

-- i octets have passed: the number s has the register's bits
pub record Passed (o : Order) (octets : List ℕ) (i s : ℕ) : Type 0 where
  pub holds : Holds o s (register o (take i octets))

module _ {o : Order} {octets : List ℕ} {i s : ℕ} (p : Passed o octets i s) where
  -- one more
  pub passed-more : {t : ℕ} → i < length octets → Holds o t (run (bits_of o 16 s) (bits_of o 8 (get_or octets i 0))) → Passed o octets (i + 1) t
  passed-more h q =
      record {
        holds =
            record {
              fits = q.fits;
              bits = q.bits ∙ ap (λ (r : List Bool). run r (bits_of o 8 (get_or octets i 0))) p.holds.bits ∙ sym
                  (register-more o octets i h);
            };
      }

  -- all have: the check is the number, with the mask m added
  pub passed-all : (m : ℕ) → length octets ≤ i → m < 2 ^ 16 → bit_xor s m ≡ check o (bits_of o 16 m) octets
  unfolding check
  passed-all m h k =
      sym (number-bits o 16 (bit_xor s m) (xor_lt 16 s m p.holds.fits k))
      ∙ ap (number_of o)
      (bits_xor o 16 s m
      ∙ ap (λ (r : List Bool). plus r (bits_of o 16 m)) (p.holds.bits ∙ ap (register o) (take_all i octets h)))
