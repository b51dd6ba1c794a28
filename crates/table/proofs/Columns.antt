-- Laws of the columns that octets hold.
use Prim.Native.Nat.{ℕ, zero, suc, ◌+◌, ◌-◌, ◌*◌, ◌≤◌, ◌<◌}
use native.Mathlib.Nat.{add-zero}
use native.Mathlib.Decide.{dec_lt}
use native.Mathlib.Omega.{arith}
use mathlib.Core.Path.{◌≡◌, refl, sym, ap, ◌∙◌}
use mathlib.Core.Bool.{true, false, ◌||◌}
use mathlib.Core.List.{List, [], ◌∷◌}
use mathlib.Core.Option.{none, some}
use lib.ListN.{length, drop, get_elem?, length-drop}
use lib.Seq.{get_or-drop, drop-drop}
use lib.Dec.{eqb, ltb}
use Rattle.octets.specs.Numbers.{at}
use Rattle.octets.specs.Parts.{part}
use Rattle.octets.proofs.Placing.{part_none}
use Rattle.octets.proofs.Runs.{part-run, length_part}
use Rattle.table.specs.Table.{Column, columns_in, widths_wrong}

-- the column at the start of octets
abbrev pub column_in : List ℕ → Column
column_in s = record { offset = at s 0; width = at s 1 }

pub columns-next : (n : ℕ) (s : List ℕ) → 2 ≤ length s → columns_in (suc n) s ≡ column_in s ∷ columns_in n (drop 2 s)
columns-next n [] h = absurd (omega arith)
columns-next n (x ∷ []) h = absurd (omega arith)
columns-next n (x ∷ y ∷ s) h = refl

-- the column of a number, and that there is none
pub such : (n i : ℕ) (s : List ℕ) → i < n → 2 * i + 2 ≤ length s
    → get_elem? (columns_in n s) i ≡ some (record { offset = at s (2 * i); width = at s (2 * i + 1) })
such zero i s h l = absurd (omega arith)
such (suc n) zero [] h l = absurd (omega arith)
such (suc n) zero (x ∷ []) h l = absurd (omega arith)
such (suc n) zero (x ∷ y ∷ s) h l = refl
such (suc n) (suc i) [] h l = absurd (omega arith)
such (suc n) (suc i) (x ∷ []) h l = absurd (omega arith)
such (suc n) (suc i) (x ∷ y ∷ s) h l =
    let one : 2 * suc i + 1 ≡ suc (suc (2 * i + 1)) = omega arith in
    let two : 2 * suc i ≡ suc (suc (2 * i)) = omega arith in
    rw (one, two) (such n i s (omega arith) (omega arith))

pub none-such : (n i : ℕ) (s : List ℕ) → n ≤ i → none ≡ get_elem? (columns_in n s) i
none-such zero i s h = refl
none-such (suc n) zero s h = absurd (omega arith)
none-such (suc n) (suc i) [] h = refl
none-such (suc n) (suc i) (x ∷ []) h = refl
none-such (suc n) (suc i) (x ∷ y ∷ s) h = none-such n i s (omega arith)

pub none-there : (n i : ℕ) (s : List ℕ) → length s < 2 * i + 2 → none ≡ get_elem? (columns_in n s) i
none-there zero i s h = refl
none-there (suc n) i [] h = refl
none-there (suc n) i (x ∷ []) h = refl
none-there (suc n) zero (x ∷ y ∷ s) h = absurd (omega arith)
none-there (suc n) (suc i) (x ∷ y ∷ s) h = none-there n i s (omega arith)

-- Widths one column after another: the columns from number i on.
module _ (head : List ℕ) (n : ℕ) (l : 4 + 2 * n ≤ length head) where
  abbrev pub from : ℕ → List Column
  from i = columns_in (n - i) (drop (4 + 2 * i) head)

  from_next : (i : ℕ) → i < n → from i ≡ record { offset = at head (4 + 2 * i); width = at head (5 + 2 * i) } ∷ from (i + 1)
  from_next i h =
      let left : n - i ≡ suc (n - (i + 1)) = omega arith in
      let two : 2 ≤ length (drop (4 + 2 * i) head) = simp length-drop (omega arith) in
      let first : at (drop (4 + 2 * i) head) 0 ≡ at head (4 + 2 * i) = get_or-drop (4 + 2 * i) head 0 0 ∙ simp add-zero in
      let one : 4 + 2 * i + 1 ≡ 5 + 2 * i = omega arith in
      let next : 4 + 2 * i + 2 ≡ 4 + 2 * (i + 1) = omega arith in
      rw left
      (columns-next (n - (i + 1)) (drop (4 + 2 * i) head) two
      ∙ simp (first, get_or-drop (4 + 2 * i) head 1 0, one, drop-drop 2 (4 + 2 * i) head, next))

  pub width-bad : (i : ℕ) → i < n → (eqb (at head (5 + 2 * i)) 0 || ltb 8 (at head (5 + 2 * i))) ≡ true → widths_wrong (from i) ≡ true
  unfolding widths_wrong
  width-bad i h e = rw (from_next i h) (simp e)

  pub width-good : (i : ℕ) → i < n → (eqb (at head (5 + 2 * i)) 0 || ltb 8 (at head (5 + 2 * i))) ≡ false
      → widths_wrong (from i) ≡ widths_wrong (from (i + 1))
  unfolding widths_wrong
  width-good i h e = rw (from_next i h) (simp e)

  pub width-end : (i : ℕ) → n ≤ i → widths_wrong (from i) ≡ false
  unfolding widths_wrong
  width-end i h =
      let none : n - i ≡ 0 = omega arith in
      rw none

-- The two octets c of column i in a table's head.
module _ (head : List ℕ) (n : ℕ) {i k : ℕ} (d : i ≡ k) {c : List ℕ} (e : c ≡ part head (4 + 2 * i) 2) where
  there : 2 ≤ length c → 4 + 2 * i + 2 ≤ length head
  there l = by (dec_lt _ _)
    where
      by : Dec (length head < 4 + 2 * i + 2) → 4 + 2 * i + 2 ≤ length head
      by (yes h) = absurd (omega (arith, l, ap length (e ∙ sym (part_none head (4 + 2 * i) 2 h))))
      by (no h) = omega (arith, h)

  not_there : length c < 2 → length head - 4 < 2 * i + 2
  not_there l = by (dec_lt _ _)
    where
      by : Dec (length head < 4 + 2 * i + 2) → length head - 4 < 2 * i + 2
      by (yes h) = omega arith
      by (no h) = absurd (omega (arith, l, ap length e, length_part head (4 + 2 * i) 2 (omega (arith, h))))

  pub pair-none : length c < 2 → none ≡ get_elem? (columns_in n (drop 4 head)) k
  pair-none l = rw (← d) (none-there n i (drop 4 head) (simp length-drop (not_there l)))

  pub pair-some : i < n → 2 ≤ length c → get_elem? (columns_in n (drop 4 head)) k ≡ some (column_in c)
  pair-some h l =
      let j = there l in
      let first : 4 + (2 * i + 1) ≡ suc (4 + 2 * i) = omega arith in
      rw (← d)
      (such n i (drop 4 head) h (simp length-drop (omega arith))
      ∙ simp (e, part-run head (4 + 2 * i) 2 j, get_or-drop 4 head (2 * i) 0, get_or-drop 4 head (2 * i + 1) 0, first))
