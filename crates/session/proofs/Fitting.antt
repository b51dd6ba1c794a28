-- Rule 3 by the tests that the code makes, and what a packet that is held says of itself.
use Prim.Native.Nat.{ℕ, ◌+◌, ◌-◌, ◌≤◌, ◌<◌}
use native.Mathlib.Omega.{arith}
use mathlib.Core.Path.{◌≡◌, refl, sym, ap, ◌∙◌}
use mathlib.Core.Bool.{Bool, true, false, not, ◌&&◌, ◌||◌, cond}
use mathlib.Core.Logic.{⊎_elim}
use mathlib.Core.List.{List, [], ◌∷◌, ◌++◌}
use lib.ListN.{length, length-append}
use lib.Dec.{leb, ltb, eqb}
use borrow.Author.Tests.{lt-ltb, le-ltb, le-leb, lt-leb, ltb-true, ltb-false}
use Rattle.octets.proofs.Tests.{or_left, or_right, or_true}
use Rattle.rules.specs.Channel.{standing, unfinished, wrong, allowed, length_in, length_holds, place_after, pointer_to, fits, dropped}
use Rattle.rules.proofs.Standing.{View, short, more, done, bad, view, not_whole, not_wrong, length-said}

-- a length outside 16 to 251
pub outside : (n : ℕ) → (ltb n 16 || ltb 251 n) ≡ true → allowed n ≡ false
outside n e =
    ⊎_elim (λ h. simp (lt-leb 16 n (ltb-true _ _ h)))
    (λ h. let l : 251 < n = ltb-true _ _ h in simp (le-leb 16 n (omega arith), lt-leb n 251 l))
    (or_true (ltb n 16) _ e)

pub record Within (n : ℕ) : Type 0 where
  pub least : 16 ≤ n
  pub greatest : n ≤ 251

pub within : (n : ℕ) → (ltb n 16 || ltb 251 n) ≡ false → Within n
within n e = record { least = ltb-false _ _ (or_left (ltb n 16) _ e); greatest = ltb-false _ _ (or_right (ltb n 16) _ e) }

inside : (n : ℕ) → Within n → allowed n ≡ true
inside n w = simp (le-leb 16 n w.least, le-leb n 251 w.greatest)

pub not_allowed : (n : ℕ) → not (allowed n) ≡ (ltb n 16 || ltb 251 n)
not_allowed n = go (ltb n 16 || ltb 251 n) refl
  where
    go : (b : Bool) → (ltb n 16 || ltb 251 n) ≡ b → not (allowed n) ≡ b
    go true e = ap not (outside n e)
    go false e = ap not (inside n (within n e))

pub standing-outside : (h : List ℕ) → 6 ≤ length h → allowed (length_in h) ≡ false → standing h ≡ wrong
unfolding standing
standing-outside h l e = simp (le-ltb _ _ l, e)

-- an unfinished packet is shorter than it says
pub less_than_said : (h d : List ℕ) → standing h ≡ unfinished → 16 ≤ length_in (h ++ d) → length h < length_in (h ++ d)
less_than_said h d u l = go (view h)
  where
    go : View h → length h < length_in (h ++ d)
    go (short a e) = omega arith
    go (more a b c f e) = omega (arith, length-said h d (h ++ d) refl a)
    go (done a b c f e) = not_whole u e
    go (bad a n e) = not_wrong u e

-- with nothing held
pub fits-empty : (h d : List ℕ) (p : ℕ) → length h ≡ 0 → eqb p (pointer_to 0 (length d)) ≡ fits h p d
unfolding length_holds place_after
fits-empty [] d p e = refl
fits-empty (x ∷ h) d p e = absurd (omega arith)

-- with a packet held: its length is still unknown, or wrong, or known
pub fits-unknown : (h d : List ℕ) (p : ℕ) → (length h ≡ 0 → ⊥) → length h + length d < 6 → eqb p
    (pointer_to (length d) (length d)) ≡ fits h p d
unfolding length_holds place_after
fits-unknown [] d p n l = absurd (n refl)
fits-unknown (x ∷ h) d p n l = simp (lt-ltb (length (x ∷ h ++ d)) 6 (simp length-append (omega arith)))

pub fits-wrong : (h d : List ℕ) (p : ℕ) → (length h ≡ 0 → ⊥) → 6 ≤ length h + length d → allowed (length_in (h ++ d)) ≡ false
    → false ≡ fits h p d
unfolding length_holds place_after
fits-wrong [] d p n l e = absurd (n refl)
fits-wrong (x ∷ h) d p n l e = simp (le-ltb (length (x ∷ h ++ d)) 6 (simp length-append (omega arith)), e)

pub fits-known : (h d : List ℕ) (p : ℕ) → (length h ≡ 0 → ⊥) → 6 ≤ length h + length d → Within (length_in (h ++ d))
    → eqb p (pointer_to (length_in (h ++ d) - length h) (length d)) ≡ fits h p d
unfolding length_holds place_after
fits-known [] d p n l w = absurd (n refl)
fits-known (x ∷ h) d p n l w = simp (le-ltb (length (x ∷ h ++ d)) 6 (simp length-append (omega arith)), inside (length_in (x ∷ h ++ d)) w)

-- rule 3's drop by the code's test
four : (i a b c : Bool) → ◌≡◌ {A = ℕ} (cond (((i && a) && b) && c) 1 0) (cond i (cond (a && b && c) 1 0) 0)
four true true true c = refl
four true true false c = refl
four true false b c = refl
four false a b c = refl

pub dropped-is : (i : Bool) (held xs : List ℕ) (t : Bool) →
    (((i && ltb 0 (length held)) && ltb (length held) 6) && leb 6 (length held + length xs)) ≡ t
    → cond t 1 0 ≡ cond i (dropped held xs) 0
dropped-is i held xs t e =
    ap {B = ℕ} (λ (b : Bool). cond b 1 0) (sym e) ∙ four i (ltb 0 (length held)) (ltb (length held) 6) (leb 6 (length held + length xs))
