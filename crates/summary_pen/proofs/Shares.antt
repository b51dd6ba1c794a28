-- Parts of a thousand, by adding up.
use Prim.Native.Nat.{ℕ, ◌+◌, ◌-◌, ◌*◌, ◌/◌, ◌≤◌, ◌<◌}
use native.Mathlib.Nat.{add-mul, mul_comm, zero-mul, div-zero, div-eq_of_lt-le}
use native.Mathlib.Omega.{arith}
use mathlib.Core.Path.{◌≡◌, sym, ap, subst, ◌∙◌}
use lib.Dec.{ltb}
use Rattle.octets.proofs.Choices.{picks}
use Rattle.summary_count.specs.Count.{saturated, largest}
use Rattle.summary_pen.specs.Lines.{thousandths}

-- a sum that stays at the largest number is not below what was added
pub within : (n rest : ℕ) → n ≤ largest → n ≤ saturated n rest
unfolding saturated
within n rest h = picks (λ (x : ℕ). n ≤ x) (ltb (largest - n) rest) largest (n + rest) (λ _. h) (λ _. omega arith)

-- n was added up i times: the whole was full so often, and so much is over
pub record Added (n all i full over : ℕ) : Type 0 where
  pub turns : full ≤ i
  pub small : over < all
  pub sums : full * all + over ≡ i * n

one_more : (i n : ℕ) → (i + 1) * n ≡ i * n + n
one_more i n = add-mul i 1 n ∙ omega arith

module _ {n all : ℕ} where
  pub added_none : 0 < all → Added n all 0 0 0
  added_none h = record { turns = omega arith; small = h; sums = simp zero-mul }

  module _ {i full over : ℕ} (a : Added n all i full over) (within : n ≤ all) where
    module _ {full' over' : ℕ} where
      same : (f o : ℕ) → Added n all (i + 1) f o → full' ≡ f → over' ≡ o → Added n all (i + 1) full' over'
      same f o x d e =
          subst (λ (y : ℕ). Added n all (i + 1) y over') (sym d) (subst (λ (y : ℕ). Added n all (i + 1) f y) (sym e) x)

      pub added-over : over < all - n → full' ≡ full → over' ≡ over + n → Added n all (i + 1) full' over'
      added-over h =
          same full (over + n)
          (record {
            turns = omega (arith, a.turns);
            small = omega arith;
            sums = omega (arith, a.sums, one_more i n);
          })

      pub added_full : all - n ≤ over → full' ≡ full + 1 → over' ≡ over - (all - n) → Added n all (i + 1) full' over'
      added_full h =
          same (full + 1) (over - (all - n))
          (record {
            turns = omega (arith, a.turns);
            small = omega (arith, a.small);
            sums = omega (arith, a.sums, a.small, one_more i n, one_more full all);
          })

pub added-all : {n all whole full over : ℕ} → all ≡ whole → Added n all 1000 full over → full ≡ thousandths n whole
unfolding thousandths
added-all {n} {all} {whole} {full} {over} e a =
    let many : n * 1000 ≡ full * all + over = mul_comm n 1000 ∙ sym a.sums in
    let high : n * 1000 < (full + 1) * all = omega (arith, many, a.small, one_more full all) in
    let low : full * all ≤ n * 1000 = omega (arith, many) in
    sym (div-eq_of_lt-le all low high) ∙ ap (λ (x : ℕ). n * 1000 / x) e

pub none_of_none : (n all : ℕ) → all ≡ 0 → 0 ≡ thousandths n all
unfolding thousandths
none_of_none n all e = sym (ap (λ (x : ℕ). n * 1000 / x) e ∙ div-zero (n * 1000))
