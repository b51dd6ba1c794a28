-- Octets laid one after another.
use Prim.Native.Nat.{ℕ, suc, ◌+◌}
use mathlib.Core.Path.{◌≡◌, refl, sym, ap, ap₂, ◌∙◌}
use mathlib.Core.List.{List, [], ◌∷◌, ◌++◌}
use native.Mathlib.Omega.{arith}
use native.Mathlib.Numerals.{add-one}
use lib.ListN.{length, set, length-append}
use lib.Seq.{sets, length-sets}

pub sets_append : (u : List ℕ) (o : List ℕ) (n : ℕ) (s : List ℕ) → sets o n (u ++ s) ≡ sets (sets o n u) (n + length u) s
sets_append [] o n s = let z : n ≡ n + 0 = omega arith in ap (λ (k : ℕ). sets o k s) z
sets_append (x ∷ u) o n s =
    let z : suc n + length u ≡ n + suc (length u) = omega arith in
    sets_append u (set o n x) (suc n) s ∙ ap (λ (k : ℕ). sets (sets (set o n x) (suc n) u) k s) z

-- what is left to lay from n on leads to the same end as all from k on
pub record Laying (o₀ : List ℕ) (k : ℕ) (all : List ℕ) (o : List ℕ) (n : ℕ) (left : List ℕ) : Type 0 where
  pub same : length o ≡ length o₀
  pub ends : n + length left ≡ k + length all
  pub lays : sets o n left ≡ sets o₀ k all

pub laying_first : (o : List ℕ) (k : ℕ) (all : List ℕ) → Laying o k all o k all
laying_first o k all = record { same = refl; ends = refl; lays = refl }

module _ {o₀ : List ℕ} {k : ℕ} {all : List ℕ} {o : List ℕ} {n : ℕ} where
  pub laying_part : (u : List ℕ) {left : List ℕ} {o' : List ℕ} {n' : ℕ} → Laying o₀ k all o n (u ++ left) → o' ≡ sets o n u
      → n' ≡ n + length u
      → Laying o₀ k all o' n' left
  laying_part u {left} t e f =
      record {
        same = ap length e ∙ length-sets o n u ∙ t.same;
        ends = omega (arith, length-append u left, t.ends, f);
        lays = ap₂ (λ (q : List ℕ) (j : ℕ). sets q j left) e f ∙ sym (sets_append u o n left) ∙ t.lays;
      }

  pub laying_one : {x : ℕ} {left : List ℕ} → Laying o₀ k all o n (x ∷ left) → Laying o₀ k all (set o n x) (n + 1) left
  laying_one {x} t = laying_part (x ∷ []) t refl refl

  pub laying_two : {x y : ℕ} {left : List ℕ} → Laying o₀ k all o n (x ∷ y ∷ left) → Laying o₀ k all (set (set o n x) (n + 1) y) (n + 2) left
  laying_two {x} {y} t = laying_part (x ∷ y ∷ []) t (rw add-one) refl

  pub laying_end : Laying o₀ k all o n [] → (n ≡ k + length all) × (o ≡ sets o₀ k all)
  laying_end t = (omega (arith, t.ends), t.lays)
