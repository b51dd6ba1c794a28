-- How many counters are not 0, one after another.
use Prim.Native.Nat.{ℕ, zero, suc, ◌+◌, ◌-◌, ◌≤◌, ◌<◌}
use native.Mathlib.Omega.{arith}
use mathlib.Core.Path.{◌≡◌, refl, sym, ap, ◌∙◌}
use mathlib.Core.List.{List}
use lib.Dec.{eqb}
use borrow.Author.Tests.{eq-eqb, ne_eqb}
use Rattle.octets.specs.Numbers.{at}
use Rattle.octets.specs.Pick.{pick}
use Rattle.octets.proofs.Choices.{picked, passed}
use Rattle.summary_text.specs.Text.{marked}

-- of so many counters from an index on, i were looked at
pub record Marked (many from : ℕ) (counts : List ℕ) (i n : ℕ) : Type 0 where
  pub few : n ≤ i
  pub rest : n + marked (many - i) (from + i) counts ≡ marked many from counts

module _ (many from : ℕ) (counts : List ℕ) where
  pub marked-none : Marked many from counts 0 0
  marked-none =
      let a : many - 0 ≡ many = omega arith in
      let b : from + 0 ≡ from = omega arith in
      let e : marked (many - 0) (from + 0) counts ≡ marked many from counts =
      ap (λ (k : ℕ). marked k (from + 0) counts) a ∙ ap (λ (k : ℕ). marked many k counts) b in
      record { few = omega arith; rest = omega (arith, e) }

  next : (i : ℕ) → i < many
      → marked (many - i) (from + i) counts ≡ pick (eqb (at counts (from + i)) 0) 0 1 + marked (many - (i + 1)) (from + (i + 1)) counts
  unfolding marked
  next i h =
      let e : many - i ≡ suc (many - (i + 1)) = omega arith in
      let f : from + i + 1 ≡ from + (i + 1) = omega arith in
      ap (λ (k : ℕ). marked k (from + i) counts) e
      ∙ ap (λ (k : ℕ). pick (eqb (at counts (from + i)) 0) 0 1 + marked (many - (i + 1)) k counts) f

  module _ (i : ℕ) {n x : ℕ} (m : Marked many from counts i n) (e : x ≡ at counts (from + i)) (h : i < many) where
    pub marked-one : (x ≡ 0 → ⊥) → Marked many from counts (i + 1) (n + 1)
    marked-one k =
        let one : ◌≡◌ {A = ℕ} 1 (pick (eqb (at counts (from + i)) 0) 0 1) = passed _ _ _ _ (ne_eqb _ 0 (λ z. k (e ∙ z))) refl in
        record { few = omega (arith, m.few); rest = omega (arith, one, next i h, m.rest) }

    pub marked_no : x ≡ 0 → Marked many from counts (i + 1) n
    marked_no k =
        let no : ◌≡◌ {A = ℕ} 0 (pick (eqb (at counts (from + i)) 0) 0 1) = picked _ _ _ (eq-eqb _ 0 (sym e ∙ k)) in
        record { few = omega (arith, m.few); rest = omega (arith, no, next i h, m.rest) }

pub marked_all : (many from : ℕ) (counts : List ℕ) (i n : ℕ) → many ≤ i → Marked many from counts i n → n ≡ marked many from counts
unfolding marked
marked_all many from counts i n h m =
    let none : many - i ≡ 0 = omega arith in
    let z : marked (many - i) (from + i) counts ≡ 0 = ap (λ (k : ℕ). marked k (from + i) counts) none in
    omega (arith, z, m.rest)
