-- Laws of octets put into a lent slice one part after another.
use Prim.Native.Nat.{ℕ, ◌+◌, ◌≤◌, ◌<◌}
use native.Mathlib.Nat.{zero-add}
use native.Mathlib.Omega.{arith}
use mathlib.Core.Path.{◌≡◌, refl, sym, ◌∙◌}
use mathlib.Core.List.{List, [], ◌++◌}
use lib.ListN.{length, take, drop, length-append, length-drop}
use lib.Seq.{take-append_seam, drop-append-add, drop-drop}
use borrow.Author.Tests.{le-ltb, lt-ltb}
use Rattle.octets.specs.Parts.{part, overlay, put, written}
use Rattle.octets.proofs.Choices.{passed, picked}

pub part_none : (s : List ℕ) (at n : ℕ) → length s < at + n → [] ≡ part s at n
unfolding part
part_none s at n h = picked _ _ _ (lt-ltb _ _ h)

pub part-some : (s : List ℕ) (at n : ℕ) → at + n ≤ length s → take n (drop at s) ≡ part s at n
unfolding part
part-some s at n h = passed _ _ _ _ (le-ltb _ _ h) refl

pub put-none : (d : List ℕ) (at : ℕ) (s : List ℕ) → length d < at + length s → d ≡ put d at s
unfolding put
put-none d at s h = picked _ _ _ (lt-ltb _ _ h)

pub put-fits : (d : List ℕ) (at : ℕ) (s : List ℕ) → at + length s ≤ length d → overlay d at s ≡ put d at s
unfolding put
put-fits d at s h = passed _ _ _ _ (le-ltb _ _ h) refl

pub put_first : (b o : List ℕ) → length b ≤ length o → put o 0 b ≡ written b o
put_first b o h = sym (put-fits o 0 b (omega arith)) ∙ simp zero-add

pub put_next : (a b o : List ℕ) (n : ℕ) → n ≡ length a → length a + length b ≤ length o → put (written a o) n b ≡ written (a ++ b) o
put_next a b o n e h =
    let l : length (written a o) ≡ length o = simp (length-append, length-drop) (omega arith) in
    sym (put-fits (written a o) n b (omega (arith, l, e)))
    ∙ rw e (simp (take-append_seam, drop-append-add, drop-drop, length-append))

-- the same of what a call of `put` left
pub after : (a b o : List ℕ) (n : ℕ) {o₁ o₂ : List ℕ} → o₁ ≡ written a o → o₂ ≡ put o₁ n b → n ≡ length a → length a + length b ≤ length o
    → o₂ ≡ written (a ++ b) o
after a b o n e₁ e₂ l h = e₂ ∙ rw e₁ (put_next a b o n l h)
