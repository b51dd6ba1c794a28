-- Octets joined to one number, the first lowest: its bits, low first, are theirs.
use mathlib.Core.Path.{◌≡◌, refl, sym, ap, ap₂, ◌∙◌}
use mathlib.Core.Bool.{Bool, false}
use mathlib.Core.List.{List, ◌∷◌, ◌++◌, append-nil}
use Prim.Native.Nat.{ℕ, zero, suc, ◌+◌, ◌*◌, ◌%◌, ◌^◌, ◌≤◌, ◌<◌}
use native.Mathlib.Nat.{add-suc, add-zero}
use native.Mathlib.Omega.{arith}
use lib.ListN.{length, get_or, take, drop, length-drop}
use lib.Seq.{length-take-le, drop-cons}
use lib.Bits.{bit_xor}
use Rattle.bits.specs.Rows.{plus, zeros, bits_of_all, digits_of}
use Rattle.bits.specs.Rows.Order.{low_first}
use Rattle.bits.proofs.Rows.{plus_self, plus-zeros, zeros-plus, plus-append, length-zeros}
use Rattle.bits.proofs.Numbers.{length_digits, digits_xor, digits_zero, digits_small, digits_left}
use Rattle.crc.proofs.Octets.{length-bits-all}

zeros-append : (j k : ℕ) (r : List Bool) → zeros (k + j) ++ r ≡ zeros j ++ (zeros k ++ r)
zeros-append zero k r = ap (λ (n : ℕ). zeros n ++ r) (add-zero k)
zeros-append (suc j) k r = ap (λ (n : ℕ). zeros n ++ r) (add-suc k j) ∙ ap (λ (q : List Bool). false ∷ q) (zeros-append j k r)

-- the bits xs put where there were zeros, between j zeros and the bits rs
put : (j : ℕ) (xs rs : List Bool) → length xs ≡ 8
    → plus (zeros j ++ (zeros 8 ++ rs)) (zeros j ++ (xs ++ zeros (length rs))) ≡ zeros j ++ (xs ++ rs)
put j xs rs e =
    plus-append (zeros j) (zeros j) (zeros 8 ++ rs) (xs ++ zeros (length rs)) refl
    ∙ ap₂ (λ (p q : List Bool). p ++ q)
    (plus_self (zeros j) ∙ ap zeros (length-zeros j))
    (plus-append (zeros 8) xs rs (zeros (length rs)) (sym e)
    ∙ ap₂ (λ (p q : List Bool). p ++ q) (ap (λ (n : ℕ). plus (zeros n) xs) (sym e) ∙ zeros-plus xs) (plus-zeros rs))

-- n octets from place i + k on, in w bits, the first of them k octets up
abbrev joined : List ℕ → ℕ → ℕ → ℕ → ℕ → ℕ
joined l i w k zero = 0
joined l i w k (suc n) = bit_xor (joined l i w (suc k) n) (get_or l (i + k) 0 * 2 ^ (8 * k) % 2 ^ w)

length-next : (l : List ℕ) (i n : ℕ) → i + n ≤ length l → length (bits_of_all low_first (take n (drop i l))) ≡ n * 8
length-next l i n h =
    length-bits-all low_first (take n (drop i l))
    ∙ ap (λ (k : ℕ). k * 8) (length-take-le n (drop i l) (simp length-drop (omega arith)))

module _ (l : List ℕ) (i w : ℕ) (small : (k : ℕ) → get_or l k 0 < 256) where
  joined-bits : (k n : ℕ) → w ≡ 8 * k + n * 8 → i + k + n ≤ length l
      → digits_of w (joined l i w k n) ≡ zeros (8 * k) ++ bits_of_all low_first (take n (drop (i + k) l))
  joined-bits k zero e h = digits_zero w ∙ ap zeros e ∙ ap zeros (add-zero (8 * k)) ∙ sym (append-nil (zeros (8 * k)))
  joined-bits k (suc n) e h =
      let x : ℕ = get_or l (i + k) 0 in
      let rs : List Bool = bits_of_all low_first (take n (drop (i + suc k) l)) in
      let m : length rs ≡ n * 8 = length-next l (i + suc k) n (omega arith) in
      let up : 8 * suc k ≡ 8 + 8 * k = omega arith in
      let wide : w ≡ 8 * k + (8 + length rs) = omega arith in
      digits_xor w (joined l i w (suc k) n) (x * 2 ^ (8 * k) % 2 ^ w)
      ∙ ap₂ plus
      (joined-bits (suc k) n (omega arith) (omega arith) ∙ ap (λ (j : ℕ). zeros j ++ rs) up ∙ zeros-append (8 * k) 8 rs)
      (ap (λ (j : ℕ). digits_of j (x * 2 ^ (8 * k) % 2 ^ j)) wide ∙ digits_left (8 * k) (8 + length rs) x
      ∙ ap (λ (r : List Bool). zeros (8 * k) ++ r) (digits_small 8 (length rs) x (small (i + k))))
      ∙ put (8 * k) (digits_of 8 x) rs (length_digits 8 x)
      ∙ ap (λ (r : List ℕ). zeros (8 * k) ++ bits_of_all low_first r)
      (sym (ap (take (suc n)) (drop-cons l (i + k) 0 (omega arith)) ∙ ap (λ (j : ℕ). x ∷ take n (drop j l)) (sym (add-suc i k))))

-- eight octets, the first of them not shifted
pub eight_bits : (l : List ℕ) (i : ℕ) → ((k : ℕ) → get_or l k 0 < 256) → i + 8 ≤ length l
    → digits_of 64 (bit_xor (joined l i 64 1 7) (get_or l i 0)) ≡ bits_of_all low_first (take 8 (drop i l))
eight_bits l i small h =
    ap (λ (x : ℕ). digits_of 64 (bit_xor (joined l i 64 1 7) x)) (rw add-zero (omega (arith, small i)))
    ∙ joined-bits l i 64 small 0 8 refl (omega arith)
    ∙ ap (λ (j : ℕ). bits_of_all low_first (take 8 (drop j l))) (add-zero i)
