-- The register as a number, and a turn of j bits through it by a table of 2 ^ j words.
use mathlib.Core.Path.{◌≡◌, refl, sym, ap, ap₂, ◌∙◌, subst}
use mathlib.Core.Bool.{Bool, false}
use mathlib.Core.List.{List, [], ◌∷◌, ◌++◌, reverse, reverse-append, reverse-cons}
use Prim.Native.Nat.{ℕ, zero, suc, ◌+◌, ◌*◌, ◌/◌, ◌%◌, ◌^◌, ◌<◌}
use native.Mathlib.Nat.{mod-lt, div-le_self, lt_of_le_of_lt, add_comm}
use lib.ListN.{length}
use lib.Pow.{pow_pos, shr_lt}
use lib.Bits.{bit_xor, xor_lt}
use lib.Dec.{lit<}
use Rattle.bits.specs.Rows.{plus, zeros, ones, Order, digits_of, bits_of, number_of}
use Rattle.crc.specs.Check.{run}
use Rattle.bits.specs.Rows.Order.{high_first, low_first}
use Rattle.crc.proofs.Register.{split, length_run}
use Rattle.bits.proofs.Numbers.{bits-number, number_lt, length-bits, bits_xor, bits-cut, bits-high, bits-low, digits_left, digits_zero}
use Rattle.bits.proofs.Numbers.{digits_small}

-- ---- the j bits of a number of k + j bits that travel first, the other k, and the number when the first have gone

abbrev pub first : Order → ℕ → ℕ → ℕ → ℕ
first high_first k j s = s / 2 ^ k
first low_first k j s = s % 2 ^ j

abbrev pub second : Order → ℕ → ℕ → ℕ → ℕ
second high_first k j s = s % 2 ^ k
second low_first k j s = s / 2 ^ j

abbrev pub rest : Order → ℕ → ℕ → ℕ → ℕ
rest high_first k j s = s * 2 ^ j % 2 ^ (k + j)
rest low_first k j s = s / 2 ^ j

pub bits-two : (o : Order) (k j s : ℕ) → bits_of o (k + j) s ≡ bits_of o j (first o k j s) ++ bits_of o k (second o k j s)
bits-two high_first k j s = bits-high k j s ∙ ap (λ (r : List Bool). bits_of high_first j (s / 2 ^ k) ++ r) (sym (bits-cut high_first k s))
bits-two low_first k j s =
    ap (λ (n : ℕ). bits_of low_first n s) (add_comm k j) ∙ bits-low j k s
    ∙ ap (λ (r : List Bool). r ++ bits_of low_first k (s / 2 ^ j)) (sym (bits-cut low_first j s))

zeros-snoc : (n : ℕ) → zeros n ++ (false ∷ []) ≡ false ∷ zeros n
zeros-snoc zero = refl
zeros-snoc (suc n) = ap (λ (r : List Bool). false ∷ r) (zeros-snoc n)

reverse_zeros : (n : ℕ) → reverse (zeros n) ≡ zeros n
reverse_zeros zero = refl
reverse_zeros (suc n) = reverse-cons false (zeros n) ∙ ap (λ (r : List Bool). r ++ (false ∷ [])) (reverse_zeros n) ∙ zeros-snoc n

pub bits-rest : (o : Order) (k j s : ℕ) → s < 2 ^ (k + j) → bits_of o (k + j) (rest o k j s) ≡ bits_of o k (second o k j s) ++ zeros j
bits-rest high_first k j s h =
    ap (λ (n : ℕ). bits_of high_first n (s * 2 ^ j % 2 ^ n)) (add_comm k j)
    ∙ ap reverse (digits_left j k s) ∙ reverse-append (zeros j) (digits_of k s)
    ∙ ap₂ (λ (x y : List Bool). x ++ y) (sym (bits-cut high_first k s)) (reverse_zeros j)
bits-rest low_first k j s h = digits_small k j (s / 2 ^ j) (shr_lt k j h)

pub bits-zero : (o : Order) (j : ℕ) → bits_of o j 0 ≡ zeros j
bits-zero high_first j = ap reverse (digits_zero j) ∙ reverse_zeros j
bits-zero low_first j = digits_zero j

rest_lt : (o : Order) (k j s : ℕ) → s < 2 ^ (k + j) → rest o k j s < 2 ^ (k + j)
rest_lt high_first k j s h = mod-lt (s * 2 ^ j) (pow_pos (k + j))
rest_lt low_first k j s h = lt_of_le_of_lt (div-le_self s (2 ^ j)) h

-- the place in the table
pub place-lt : (o : Order) (k j s b : ℕ) → s < 2 ^ (k + j) → b < 2 ^ j → bit_xor (first o k j s) b < 2 ^ j
place-lt high_first k j s b h l = xor_lt j (s / 2 ^ k) b (shr_lt j k (subst (λ (n : ℕ). s < 2 ^ n) (add_comm k j) h)) l
place-lt low_first k j s b h l = xor_lt j (s % 2 ^ j) b (mod-lt s (pow_pos j)) l

-- ---- the number s has the bits of the register r

pub record Holds (o : Order) (s : ℕ) (r : List Bool) : Type 0 where
  pub fits : s < 2 ^ 16
  pub bits : bits_of o 16 s ≡ r

pub holds-ones : (o : Order) → Holds o 0xffff (ones 16)
holds-ones high_first = record { fits = lit< tt; bits = refl }
holds-ones low_first = record { fits = lit< tt; bits = refl }

-- the word at place n of the table: what the register has after the j bits of n, from all zeros
unfoldable pub table_word : Order → ℕ → ℕ → ℕ
table_word o j n = number_of o (run (zeros 16) (bits_of o j n))

pub word : (o : Order) (j n : ℕ) → Holds o (table_word o j n) (run (zeros 16) (bits_of o j n))
unfolding table_word
word o j n =
    record {
      fits = subst (λ (w : ℕ). number_of o r < 2 ^ w) (length_run (zeros 16) (bits_of o j n) refl) (number_lt o r);
      bits = bits-number o 16 r (length_run (zeros 16) (bits_of o j n) refl);
    }
  where
    r : List Bool
    r = run (zeros 16) (bits_of o j n)

-- a turn of the j bits of b; the word at the place that the first j bits of s and b say is t
pub holds_turn : (o : Order) (k j s b t : ℕ) → k + j ≡ 16 → s < 2 ^ 16
    → t ≡ table_word o j (bit_xor (first o k j s) b) → Holds o (bit_xor t (rest o k j s)) (run (bits_of o 16 s) (bits_of o j b))
holds_turn o k j s b t w h e =
    record {
      fits =
          xor_lt 16 t (rest o k j s)
          (subst (λ (n : ℕ). n < 2 ^ 16) (sym e) (word o j at).fits)
          (subst (λ (n : ℕ). rest o k j s < 2 ^ n) w (rest_lt o k j s wide));
      bits =
          bits_xor o 16 t (rest o k j s)
          ∙ ap₂ plus
          (ap (bits_of o 16) e ∙ (word o j at).bits ∙ ap (run (zeros 16)) (bits_xor o j (first o k j s) b))
          (ap (λ (n : ℕ). bits_of o n (rest o k j s)) (sym w) ∙ bits-rest o k j s wide
          ∙ ap (λ (n : ℕ). bits_of o k (second o k j s) ++ zeros n) (sym (length-bits o j b)))
          ∙ sym (split (bits_of o j (first o k j s)) (bits_of o j b) (bits_of o k (second o k j s))
          (length-bits o j (first o k j s) ∙ sym (length-bits o j b))
          (ap length (sym two) ∙ length-bits o 16 s))
          ∙ ap (λ (q : List Bool). run q (bits_of o j b)) (sym two);
    }
  where
    at : ℕ
    at = bit_xor (first o k j s) b

    wide : s < 2 ^ (k + j)
    wide = subst (λ (n : ℕ). s < 2 ^ n) (sym w) h

    two : bits_of o 16 s ≡ bits_of o j (first o k j s) ++ bits_of o k (second o k j s)
    two = ap (λ (n : ℕ). bits_of o n s) (sym w) ∙ bits-two o k j s
