-- Laws of what is lent.
use mathlib.Core.Path.{◌≡◌, ap, ◌∙◌}
use mathlib.Core.List.{List}
use mathlib.Core.Bool.{false, ◌||◌}
use Prim.Native.Nat.{ℕ}
use lib.ListN.{length}
use lib.Dec.{ltb}
use borrow.Author.Tests.{le-ltb, ltb-false}
use Rattle.octets.proofs.Tests.{or_left, or_right}
use Rattle.session.specs.Lent.{Lent, lent, scant, Enough}

-- list by list
pub lent_same : {a b c d e f : List ℕ} → a ≡ b → c ≡ d → e ≡ f → lent a c e ≡ lent b d f
lent_same {b = b} {c} {d} {e} p q r = ap (λ (x : List ℕ). lent x c e) p ∙ ap (λ (x : List ℕ). lent b x e) q ∙ ap (lent b d) r

-- refusal 1 holds exactly if it is not enough
pub enough : (l : Lent) → scant l ≡ false → Enough l
enough l e =
    let h = or_left (ltb (length l.octets) 501 || ltb (length l.lengths) 16) (ltb (length l.firsts) 16) e in
    record {
      octets = ltb-false _ _ (or_left (ltb (length l.octets) 501) (ltb (length l.lengths) 16) h);
      lengths = ltb-false _ _ (or_right (ltb (length l.octets) 501) (ltb (length l.lengths) 16) h);
      firsts = ltb-false _ _ (or_right (ltb (length l.octets) 501 || ltb (length l.lengths) 16) (ltb (length l.firsts) 16) e);
    }

pub not_scant : (l : Lent) → Enough l → scant l ≡ false
not_scant l e = simp (le-ltb _ _ e.octets, le-ltb _ _ e.lengths, le-ltb _ _ e.firsts)
