-- The check over octets with two octets behind them: it is the residue exactly when the two are the check's own.
use mathlib.Core.Path.{◌≡◌, refl, sym, ap, ◌∙◌}
use mathlib.Core.Bool.{Bool}
use mathlib.Core.List.{List, [], ◌∷◌, ◌++◌, append-nil}
use Prim.Native.Nat.{ℕ, ◌^◌, ◌<◌}
use lib.ListN.{length}
use lib.Arith.{digits_lt}
use Rattle.octets.proofs.Laws.{word-high, word_low}
use Rattle.bits.specs.Rows.{plus, zeros, ones, Order, bits_of, number_of, bits_of_all}
use Rattle.crc.specs.Check.{run, register, octets_of, word_in, check, with_check}
use Rattle.bits.specs.Rows.Order.{high_first, low_first}
use Rattle.crc.specs.Statements.{residue, Own, OnlyOwn, PacketOwn, FrameOwn}
use Rattle.bits.proofs.Rows.{length-plus, plus_twice}
use Rattle.crc.proofs.Register.{Z, length_run}
use Rattle.crc.proofs.Inverse.{own_row, own_row_back}
use Rattle.bits.proofs.Numbers.{length-bits, number-bits, bits-number}
use Rattle.crc.proofs.Octets.{register-append, length-register}
use Rattle.crc.proofs.Turn.{bits-two}

-- ---- two octets and their number

pub octets-word : (o : Order) (x y : ℕ) → x < 256 → y < 256 → octets_of o (word_in o x y) ≡ x ∷ y ∷ []
octets-word high_first x y h k = simp (word-high, word_low)
octets-word low_first x y h k = simp (word-high, word_low)

word_lt : (o : Order) (x y : ℕ) → x < 256 → y < 256 → word_in o x y < 2 ^ 16
word_lt high_first x y h k = digits_lt h k
word_lt low_first x y h k = digits_lt k h

bits-octets : (o : Order) (v : ℕ) → bits_of_all o (octets_of o v) ≡ bits_of o 16 v
bits-octets high_first v = simp append-nil (sym (bits-two high_first 8 8 v))
bits-octets low_first v = simp append-nil (sym (bits-two low_first 8 8 v))

-- ---- the check's own, in either order and with either mask

module _ (o : Order) (m : List Bool) (w : length m ≡ 16) where
  masked : (r : List Bool) → length r ≡ 16 → length (plus r m) ≡ 16
  masked r h = length-plus r m (h ∙ sym w) ∙ h

  -- the check says what the register has
  check-bits : (octets : List ℕ) → bits_of o 16 (check o m octets) ≡ plus (register o octets) m
  unfolding check
  check-bits octets = bits-number o 16 (plus (register o octets) m) (masked (register o octets) (length-register o octets))

  residue-register : (octets : List ℕ) → check o m octets ≡ residue o m → register o octets ≡ run Z m
  unfolding residue
  residue-register octets e =
      sym (plus_twice (register o octets) m (length-register o octets ∙ sym w))
      ∙ ap (λ (r : List Bool). plus r m)
      (sym (check-bits octets) ∙ ap (bits_of o 16) e ∙ bits-number o 16 (plus (run Z m) m) (masked (run Z m) (length_run Z m refl)))
      ∙ plus_twice (run Z m) m (length_run Z m refl ∙ sym w)

pub own : Own
unfolding check residue with_check
own o m w octets =
    ap (λ (r : List Bool). number_of o (plus r m))
    (register-append o octets (octets_of o (check o m octets))
    ∙ ap (run (register o octets)) (bits-octets o (check o m octets) ∙ check-bits o m w octets)
    ∙ own_row (register o octets) m (length-register o octets) w)

pub only_own : OnlyOwn
unfolding check
only_own o m w octets x y h k e =
    sym (octets-word o x y h k)
    ∙ ap (octets_of o)
    (sym (number-bits o 16 (word_in o x y) (word_lt o x y h k))
    ∙ ap (number_of o)
    (own_row_back (register o octets) (bits_of o 16 (word_in o x y)) m (length-register o octets) (length-bits o 16 (word_in o x y)) w ran))
  where
    ran : run (register o octets) (bits_of o 16 (word_in o x y)) ≡ run Z m
    ran =
        ap (run (register o octets)) (sym (ap (bits_of_all o) (sym (octets-word o x y h k)) ∙ bits-octets o (word_in o x y)))
        ∙ sym (register-append o octets (x ∷ y ∷ []))
        ∙ residue-register o m w (octets ++ (x ∷ y ∷ [])) e

pub packet_own : PacketOwn
unfolding residue
packet_own = own high_first (zeros 16) refl

pub frame_own : FrameOwn
unfolding residue
frame_own = own low_first (ones 16) refl
