-- Entries written one after another at the start of a lent list; first numbers among them.
use Prim.Native.Nat.{ℕ, zero, suc, ◌≤◌, ◌<◌}
use native.Mathlib.Nat.{le_of_suc-le-suc}
use native.Mathlib.Omega.{arith}
use mathlib.Core.Path.{◌≡◌, refl, ap}
use mathlib.Core.List.{List, [], ◌∷◌, ◌++◌}
use lib.ListN.{length, drop, set, length-append, length-drop}
use Rattle.octets.specs.Parts.{written}
use Rattle.rules.specs.Channel.{begun_in}
use Rattle.rules.specs.Cutting.{firsts_of, first_behind}

pub same_length : (s out : List ℕ) → length s ≤ length out → length (written s out) ≡ length out
same_length s out h = omega (arith, length-append s (drop (length s) out), length-drop (length s) out)

-- one entry more
pub entered : (s out : List ℕ) (x : ℕ) → length s < length out → set (written s out) (length s) x ≡ written (s ++ x ∷ []) out
entered [] [] x h = absurd (omega arith)
entered [] (y ∷ out) x h = refl
entered (z ∷ s) [] x h = absurd (omega arith)
entered (z ∷ s) (y ∷ out) x h = ap (λ (l : List ℕ). z ∷ l) (entered s out x (le_of_suc-le-suc h))

pub length-firsts : (f a n : ℕ) → length (firsts_of f a n) ≡ n
length-firsts f a zero = refl
length-firsts f a (suc n) = ap suc (length-firsts a a n)

pub firsts_more : (f a n : ℕ) → firsts_of f a n ++ first_behind f a n ∷ [] ≡ firsts_of f a (suc n)
firsts_more f a zero = refl
firsts_more f a (suc zero) = refl
firsts_more f a (suc (suc n)) = ap (λ (l : List ℕ). f ∷ l) (firsts_more a a (suc n))

-- where a packet was begun, by the test that the code makes
pub begun-none : (a first n : ℕ) → n ≡ 0 → a ≡ begun_in a first n
begun-none a first n e = rw e refl

pub begun-some : (a first n : ℕ) → (n ≡ 0 → ⊥) → first ≡ begun_in a first n
begun-some a first zero h = absurd (h refl)
begun-some a first (suc n) h = refl
