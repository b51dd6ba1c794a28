-- Numbers and their octets undo one another.
use Prim.Native.Nat.{ℕ, ◌/◌, ◌%◌, ◌≤◌, ◌<◌}
use native.Mathlib.Omega.{arith}
use mathlib.Core.Path.{◌≡◌}
use Rattle.octets.specs.Numbers.{word, four, five}

-- THE law: a number is that of its last octet and the rest.
pub word_of : (n : ℕ) → word (n / 256) (n % 256) ≡ n
word_of n = omega arith

pub word-high : (h l : ℕ) → l < 256 → word h l / 256 ≡ h
word-high h l b = omega arith

pub word_low : (h l : ℕ) → l < 256 → word h l % 256 ≡ l
word_low h l b = omega arith

pub four_of_lem : (n : ℕ) → four (n / 256 / 256 / 256) (n / 256 / 256 % 256) (n / 256 % 256) (n % 256) ≡ n
four_of_lem n = simp word_of

pub five_of_lem : (n : ℕ) → n ≤ 1099511627775
    → five (n / 256 / 256 / 256 / 256 % 256) (n / 256 / 256 / 256 % 256) (n / 256 / 256 % 256) (n / 256 % 256) (n % 256) ≡ n
five_of_lem n h =
    let top : n / 256 / 256 / 256 / 256 % 256 ≡ n / 256 / 256 / 256 / 256 = omega arith in
    simp (top, word_of)
