-- The number of a line that is placed, and the smallest of some numbers.
use Prim.Native.Nat.{ℕ, min, ◌≤◌, ◌<◌}
use native.Mathlib.Omega.{arith}
use native.Mathlib.Decide.{dec_lt, ℕ_discrete}
use mathlib.Core.Path.{◌≡◌, refl, sym, ◌∙◌}
use mathlib.Core.Logic.{◌⊎◌, inl, inr}
use borrow.Author.Tests.{eq-eqb, ne_eqb}
use Rattle.octets.proofs.Choices.{picked, passed}
use Rattle.image.specs.Line.{number}
use Rattle.about_image.specs.Placings.{Smallest, smallest, none}

number-first : (held arrival : ℕ) → held ≡ 0 → number held arrival ≡ arrival
unfolding number
number-first held arrival h = sym (picked _ _ _ (eq-eqb _ _ h))

number-held : (held arrival : ℕ) → (held ≡ 0 → ⊥) → number held arrival ≡ min arrival held
unfolding number
number-held held arrival h = sym (passed _ _ _ _ (ne_eqb held 0 h) refl)

-- the line's number is one of the two, and no greater than either
abbrev pub One : ℕ → ℕ → Type 0
One held arrival = (number held arrival ≡ arrival) ⊎ ((0 < held) × (number held arrival ≡ held))

pub record Lower (held arrival : ℕ) : Type 0 where
  pub positive : 0 < number held arrival
  pub below : number held arrival ≤ arrival
  pub below-held : 0 < held → number held arrival ≤ held
  pub one : One held arrival

pub lower : (held arrival : ℕ) → 0 < arrival → Lower held arrival
lower held arrival h = by (ℕ_discrete held 0)
  where
    by : Dec (held ≡ 0) → Lower held arrival
    by (yes e) =
        let k = number-first held arrival e in
        record { positive = omega arith; below = omega arith; below-held = λ p. omega arith; one = inl k }
    by (no e) =
        let k = number-held held arrival e in
        let p : 0 < held = omega (arith, e) in
        record { positive = omega arith; below = omega arith; below-held = λ q. omega arith; one = which k p (dec_lt held arrival) }
      where
        which : number held arrival ≡ min arrival held → 0 < held → Dec (held < arrival) → One held arrival
        which k p (yes l) = inr (p, omega arith)
        which k p (no l) = inl (omega (arith, l))

-- The smallest of some numbers is that of others, if all of them are among those and each of those is at least one of them.
pub smallest_of : {N M : ℕ → Type 0} {k : ℕ} → ((m : ℕ) → N m → M m) → ((m : ℕ) → M m → (j : ℕ) × N j × (j ≤ m)) → Smallest N k
    → Smallest M k
smallest_of f g (smallest h l) = smallest (f _ h) (λ m p. let b = g m p in omega (arith, l b.0 b.1, b.2))
smallest_of f g (none h e) = none (λ m p. let b = g m p in h b.0 b.1) e

-- There is one.
pub one-smallest : {N : ℕ → Type 0} {k j : ℕ} → Smallest N k → Smallest N j → k ≡ j
one-smallest (smallest h l) (smallest i m) = omega (arith, l _ i, m _ h)
one-smallest (smallest h l) (none m e) = absurd (m _ h)
one-smallest (none l e) (smallest i m) = absurd (l _ i)
one-smallest (none l e) (none m d) = e ∙ sym d
