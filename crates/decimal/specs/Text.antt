-- Numbers in decimal, as ASCII codes.
use Rattle.std.specs.Prelude.{ℕ, zero, suc, ◌+◌, ◌*◌, ◌-◌, ◌/◌, ◌%◌, ◌^◌, ◌<◌, ◌≡◌, List, [], ◌∷◌, ◌++◌, ltb}
use Rattle.octets.specs.Pick.{pick}

-- The decimal digits of a number below ten to the power k.
abbrev pub decimal_below : ℕ → ℕ → List ℕ
decimal_below zero n = []
decimal_below (suc k) n = pick (ltb n 10) ((48 + n) ∷ []) (decimal_below k (n / 10) ++ ((48 + n % 10) ∷ []))

-- The decimal digits of any number that is printed: of ten digits at most.
unfoldable pub decimal : ℕ → List ℕ
decimal n = decimal_below 10 n

-- The number that decimal digits show, n being that of the digits before them.
abbrev pub value_after : ℕ → List ℕ → ℕ
value_after n [] = n
value_after n (d ∷ ds) = value_after (n * 10 + (d - 48)) ds

-- Decimal digits show the number that they were made of.
abbrev pub DecimalShows : Type 0
DecimalShows = (n : ℕ) → n < 10 ^ 10 → value_after 0 (decimal n) ≡ n

-- The most octets that a number takes with the character behind it.
abbrev pub longest_number : ℕ
longest_number = 11

-- Numbers, each with the octet `after` behind it, then a text.
abbrev pub each : ℕ → List ℕ → List ℕ → List ℕ
each after [] text = text
each after (n ∷ numbers) text = decimal n ++ (after ∷ each after numbers text)
