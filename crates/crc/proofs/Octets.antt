-- The register over octets: over two lists, and over one octet more.
use mathlib.Core.Path.{◌≡◌, refl, sym, ap, ap₂, ◌∙◌}
use mathlib.Core.Bool.{Bool}
use mathlib.Core.List.{List, [], ◌∷◌, ◌++◌, append_assoc, append-nil}
use Prim.Native.Nat.{ℕ, ◌+◌, ◌*◌, ◌<◌}
use native.Mathlib.Nat.{suc-mul, add_comm}
use native.Mathlib.Numerals.{add-one}
use lib.ListN.{length, get_or, take, length-append}
use lib.Seq.{take-suc}
use Rattle.bits.specs.Rows.{ones, Order, bits_of, bits_of_all}
use Rattle.crc.specs.Check.{run, register}
use Rattle.bits.proofs.Numbers.{length-bits}
use Rattle.crc.proofs.Register.{run-append, length_run}

-- ---- octets, one more

pub bits-all-append : (o : Order) (xs ys : List ℕ) → bits_of_all o (xs ++ ys) ≡ bits_of_all o xs ++ bits_of_all o ys
bits-all-append o [] ys = refl
bits-all-append o (x ∷ xs) ys =
    ap (λ (r : List Bool). bits_of o 8 x ++ r) (bits-all-append o xs ys)
    ∙ sym (append_assoc (bits_of o 8 x) (bits_of_all o xs) (bits_of_all o ys))

pub length-bits-all : (o : Order) (xs : List ℕ) → length (bits_of_all o xs) ≡ length xs * 8
length-bits-all o [] = refl
length-bits-all o (x ∷ xs) =
    length-append (bits_of o 8 x) (bits_of_all o xs) ∙ ap₂ (λ (m n : ℕ). m + n) (length-bits o 8 x) (length-bits-all o xs)
    ∙ sym (suc-mul (length xs) 8 ∙ add_comm (length xs * 8) 8)

pub register-append : (o : Order) (xs ys : List ℕ) → register o (xs ++ ys) ≡ run (register o xs) (bits_of_all o ys)
register-append o xs ys = ap (run (ones 16)) (bits-all-append o xs ys) ∙ run-append (ones 16) (bits_of_all o xs) (bits_of_all o ys)

pub register-more : (o : Order) (xs : List ℕ) (i : ℕ) → i < length xs
    → register o (take (i + 1) xs) ≡ run (register o (take i xs)) (bits_of o 8 (get_or xs i 0))
register-more o xs i h =
    ap (λ (n : ℕ). register o (take n xs)) (add-one i)
    ∙ ap (register o) (take-suc xs i 0 h) ∙ register-append o (take i xs) (get_or xs i 0 ∷ [])
    ∙ ap (run (register o (take i xs))) (append-nil (bits_of o 8 (get_or xs i 0)))

pub length-register : (o : Order) (xs : List ℕ) → length (register o xs) ≡ 16
length-register o xs = length_run (ones 16) (bits_of_all o xs) refl
