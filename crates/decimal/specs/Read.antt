-- Decimal text that is read: no leading zero, and no number above the largest.
use Rattle.std.specs.Prelude.{ℕ, zero, suc, ◌+◌, ◌-◌, ◌^◌, ◌≤◌, ◌≡◌, Bool, true, false, not, ◌||◌, List, [], ◌∷◌, ◌++◌, length, drop, eqb, ltb, Some, None}
use Rattle.octets.specs.Numbers.{at}
use Rattle.octets.specs.Pick.{pick}
use Rattle.decimal.specs.Text.{decimal, value_after, each}
use Rattle.decimal.specs.Answers.{NumberRead}

-- The largest number of 32 bits.
abbrev pub largest : ℕ
largest = 4294967295

-- An octet that is none of the digits 0 to 9.
abbrev pub no_digit : ℕ → Bool
no_digit c = ltb c 48 || ltb 57 c

-- The digits at the start of a text, and the number that they show.
abbrev pub digits_of : List ℕ → List ℕ
digits_of [] = []
digits_of (c ∷ text) = pick (no_digit c) [] (c ∷ digits_of text)

abbrev pub number_of : List ℕ → ℕ
number_of text = value_after 0 (digits_of text)

-- No digits, or a leading zero.
abbrev pub ill_written : List ℕ → Bool
ill_written [] = true
ill_written (d ∷ []) = false
ill_written (d ∷ e ∷ digits) = eqb d 48

-- What stands behind the digits does not begin with the octet `after`.
abbrev pub ends_otherwise : ℕ → List ℕ → Bool
ends_otherwise after [] = true
ends_otherwise after (c ∷ text) = not (eqb c after)

-- A text that does not start with a number that the octet `after` ends.
unfoldable pub number_wrong : ℕ → List ℕ → Bool
number_wrong after text =
    ill_written (digits_of text) || (ltb largest (number_of text) || ends_otherwise after (drop (length (digits_of text)) text))

-- What `read` answers: the number at index at and the index behind the octet that ends it; none where none is written there.
unfoldable pub read_at : List ℕ → ℕ → ℕ → NumberRead
read_at text at after =
    let here = drop at text in
    pick (number_wrong after here) None (Some (number_of here, at + length (digits_of here) + 1))

-- What stands behind a number and the octet that ends it.
abbrev pub behind : List ℕ → List ℕ
behind text = drop (length (digits_of text) + 1) text

-- The n numbers that a text starts with.
unfoldable pub numbers_of : ℕ → List ℕ → List ℕ
numbers_of zero text = []
numbers_of (suc n) text = number_of text ∷ numbers_of n (behind text)

-- A text that is not n numbers, each ended by the octet `after`, and nothing behind them.
unfoldable pub numbers_wrong : ℕ → ℕ → List ℕ → Bool
numbers_wrong zero after [] = false
numbers_wrong zero after (c ∷ text) = true
numbers_wrong (suc n) after text = number_wrong after text || numbers_wrong n after (behind text)

-- A number of 32 bits: any that a call can be given, whatever the largest is that is read.
abbrev pub Of32Bits : ℕ → Type 0
Of32Bits n = n ≤ 2 ^ 32 - 1

-- A number that was written reads back, whatever stands before and behind it.
abbrev pub ReadsBack : Type 0
ReadsBack =
    (before text : List ℕ) (n after : ℕ) → Of32Bits n → no_digit after ≡ true
    → read_at (before ++ (decimal n ++ (after ∷ text))) (length before) after ≡ Some (n, length before + length (decimal n) + 1)

-- What is read as a number is what is written for it.
abbrev pub WritesBack : Type 0
WritesBack =
    (text : List ℕ) (at after n next : ℕ) → read_at text at after ≡ Some (n, next)
    → Of32Bits n × (drop at text ≡ decimal n ++ (after ∷ drop next text))

-- The same of a whole text of numbers.
abbrev pub NumbersReadBack : Type 0
NumbersReadBack =
    (numbers : List ℕ) (after : ℕ) → ((i : ℕ) → Of32Bits (at numbers i)) → no_digit after ≡ true
    → (numbers_wrong (length numbers) after (each after numbers []) ≡ false) × (numbers_of (length numbers) (each after numbers []) ≡ numbers)

abbrev pub NumbersWriteBack : Type 0
NumbersWriteBack =
    (n after : ℕ) (text : List ℕ) → numbers_wrong n after text ≡ false → each after (numbers_of n text) [] ≡ text
