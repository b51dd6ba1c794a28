-- How long numbers are as text.
use Prim.Native.Nat.{ℕ, zero, suc, ◌+◌, ◌*◌, ◌/◌, ◌≤◌}
use mathlib.Core.List.{List, [], ◌∷◌}
use mathlib.Core.Bool.{Bool, true, false}
use native.Mathlib.Omega.{arith}
use lib.Dec.{ltb}
use lib.ListN.{length, length-append}
use Rattle.octets.specs.Pick.{pick}
use Rattle.decimal.specs.Text.{decimal_below, decimal, each}

pub either_short : {most : ℕ} (b : Bool) (x y : List ℕ) → length x ≤ most → length y ≤ most → length (pick b x y) ≤ most
unfolding pick
either_short true x y h k = h
either_short false x y h k = k

pub below-short : (k n : ℕ) → length (decimal_below k n) ≤ k
below-short zero n = omega arith
below-short (suc k) n = either_short (ltb n 10) _ _ (omega arith) (simp length-append (omega (arith, below-short k (n / 10))))

pub decimal-short : (n : ℕ) → length (decimal n) ≤ 10
unfolding decimal
decimal-short n = below-short 10 n

-- numbers and a text behind them
pub each-short : (after : ℕ) (ns text : List ℕ) → length (each after ns text) ≤ 11 * length ns + length text
each-short after [] text = omega arith
each-short after (n ∷ ns) text = simp length-append (omega (arith, decimal-short n, each-short after ns text))
