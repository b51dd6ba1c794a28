-- The register low bit first, from all zeros, by shifts of numbers.
use mathlib.Core.Path.{◌≡◌, refl, sym, ap, ◌∙◌}
use mathlib.Core.Bool.{Bool}
use mathlib.Core.List.{List, [], ◌∷◌, ◌++◌}
use Prim.Native.Nat.{ℕ, ◌^◌, ◌<◌}
use native.Mathlib.Nat.{lt_of_lt_of_le}
use lib.ListN.{length}
use lib.Pow.{shr_lt}
use lib.Dec.{lit≤}
use Rattle.bits.specs.Rows.{zeros, bits_of, number_of}
use Rattle.crc.specs.Check.{run}
use Rattle.bits.specs.Rows.Order.{low_first}
use Rattle.crc.proofs.Register.{Z, length_run, run-plus}
use Rattle.bits.proofs.Numbers.{length-bits, number-bits, bits_xor}
use Rattle.crc.proofs.Turn.{table_word}
use Rattle.crc.proofs.Shifts.{Part, sums, sums_lt}
use Rattle.crc.proofs.Shifts.Part.{itself, left, right, low}
use Rattle.crc.proofs.Linear.{Linear, then_linear, agreed}

-- what the register has after the k low bits of n, from all zeros
abbrev pub after : ℕ → ℕ → List Bool
after k n = run Z (bits_of low_first k n)

pub after_linear : (k : ℕ) → Linear (after k)
after_linear k a b =
    ap (run Z) (bits_xor low_first k a b)
    ∙ run-plus Z Z (bits_of low_first k a) (bits_of low_first k b) refl refl (length-bits low_first k a ∙ sym (length-bits low_first k b))

length-after : (k n : ℕ) → length (after k n) ≡ 16
length-after k n = length_run Z (bits_of low_first k n) refl

-- ---- what low_zeros works out

abbrev zeros_sums : List (List Part)
zeros_sums = (itself ∷ left 16 ∷ left 44 ∷ []) ∷ (itself ∷ left 32 ∷ []) ∷ (itself ∷ right 20 ∷ right 48 ∷ []) ∷ []

pub zeros_sums_lem : (s : ℕ) → s < 2 ^ 64 → after 64 (sums 64 zeros_sums s) ≡ run (after 64 s) (zeros 64)
zeros_sums_lem =
    agreed (λ n. after 64 (sums 64 zeros_sums n)) (λ n. run (after 64 n) (zeros 64))
    (then_linear (after 64) (after_linear 64) 64 zeros_sums)
    (λ a b.
    ap (λ (r : List Bool). run r (zeros 64)) (after_linear 64 a b)
    ∙ run-plus (after 64 a) (after 64 b) (zeros 64) (zeros 64) (length-after 64 a) (length-after 64 b) refl)
    refl 64 refl

-- ---- what low_bits works out

abbrev wide_sums : List (List Part)
wide_sums =
    (itself ∷ left 4 ∷ left 11 ∷ left 16 ∷ []) ∷ (itself ∷ left 8 ∷ left 22 ∷ left 32 ∷ []) ∷ (itself ∷ left 16 ∷ left 44 ∷ [])
    ∷ (itself ∷ left 32 ∷ []) ∷ (itself ∷ right 5 ∷ right 12 ∷ []) ∷ []

abbrev bits_sums : List (List Part)
bits_sums = wide_sums ++ ((right 48 ∷ []) ∷ [])

pub bits_sums_lt : (s : ℕ) → s < 2 ^ 64 → sums 64 bits_sums s < 2 ^ 16
bits_sums_lt s h = shr_lt 16 48 (sums_lt 64 wide_sums s h)

pub bits_sums_lem : (s : ℕ) → s < 2 ^ 64 → bits_of low_first 16 (sums 64 bits_sums s) ≡ after 64 s
bits_sums_lem =
    agreed (λ n. bits_of low_first 16 (sums 64 bits_sums n)) (after 64)
    (then_linear (bits_of low_first 16) (bits_xor low_first 16) 64 bits_sums) (after_linear 64) refl 64 refl

-- ---- what low_octet works out of the register's first 8 bits and the octet: the word that a table would have

abbrev octet_sums : List (List Part)
octet_sums = (itself ∷ left 4 ∷ []) ∷ (low 8 ∷ []) ∷ (left 8 ∷ left 3 ∷ right 4 ∷ []) ∷ []

octet_sums_lem : (k : ℕ) → k < 2 ^ 8 → bits_of low_first 16 (sums 16 octet_sums k) ≡ after 8 k
octet_sums_lem =
    agreed (λ n. bits_of low_first 16 (sums 16 octet_sums n)) (after 8)
    (then_linear (bits_of low_first 16) (bits_xor low_first 16) 16 octet_sums) (after_linear 8) refl 8 refl

pub octet-word : (k : ℕ) → k < 2 ^ 8 → sums 16 octet_sums k ≡ table_word low_first 8 k
unfolding table_word
octet-word k h =
    sym (number-bits low_first 16 (sums 16 octet_sums k) (sums_lt 16 octet_sums k (lt_of_lt_of_le h (lit≤ tt))))
    ∙ ap (number_of low_first) (octet_sums_lem k h)
