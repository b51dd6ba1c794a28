-- Octets of a list written out one by one, and parts cut in two.
use Prim.Native.Nat.{ℕ, zero, suc, ◌+◌, ◌≤◌, ◌<◌}
use native.Mathlib.Nat.{add-zero}
use native.Mathlib.Omega.{arith}
use mathlib.Core.Path.{◌≡◌, refl, sym, ap, ◌∙◌}
use mathlib.Core.List.{List, [], ◌∷◌, ◌++◌}
use lib.ListN.{length, take, drop}
use lib.Seq.{drop-cons, take_at, take-add, drop-drop}
use Rattle.octets.specs.Numbers.{at}
use Rattle.octets.specs.Parts.{part}
use Rattle.octets.proofs.Placing.{part-some}

-- n octets of s from index i on
abbrev pub run : ℕ → ℕ → List ℕ → List ℕ
run i zero s = []
run i (suc n) s = at s i ∷ run (suc i) n s

pub run_is : (n i : ℕ) (s : List ℕ) → i + n ≤ length s → drop i s ≡ run i n s ++ drop (i + n) s
run_is zero i s h = simp add-zero
run_is (suc n) i s h =
    let k : i < length s = omega arith in
    let e : i + suc n ≡ suc i + n = omega arith in
    drop-cons s i 0 k
    ∙ ap (λ (x : List ℕ). at s i ∷ x) (run_is n (suc i) s (omega arith) ∙ ap (λ (x : ℕ). run (suc i) n s ++ drop x s) (sym e))

length_run : (n i : ℕ) (s : List ℕ) → length (run i n s) ≡ n
length_run zero i s = refl
length_run (suc n) i s = ap suc (length_run n (suc i) s)

pub part-run : (s : List ℕ) (i n : ℕ) → i + n ≤ length s → part s i n ≡ run i n s
part-run s i n h =
    sym (part-some s i n h) ∙ ap (take n) (run_is n i s h) ∙ take_at (run i n s) (drop (i + n) s) n (length_run n i s)

pub part-two : (s : List ℕ) (i m n : ℕ) → i + (m + n) ≤ length s → part s i (m + n) ≡ part s i m ++ part s (i + m) n
part-two s i m n h =
    sym (part-some s i (m + n) h) ∙ take-add m n (drop i s)
    ∙ ap (λ (x : List ℕ). take m (drop i s) ++ take n x) (drop-drop m i s)
    ∙ simp (part-some s i m (omega arith), part-some s (i + m) n (omega arith))

pub length_part : (s : List ℕ) (i n : ℕ) → i + n ≤ length s → length (part s i n) ≡ n
length_part s i n h = ap length (part-run s i n h) ∙ length_run n i s
