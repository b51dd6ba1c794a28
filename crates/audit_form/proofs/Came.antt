-- What it means that a read brought octets.
use Prim.Native.Nat.{ℕ}
use mathlib.Core.Path.{◌≡◌, refl, sym, ap, ◌∙◌}
use mathlib.Core.Bool.{Bool, true, false, not, ◌&&◌, true≢false}
use lib.Dec.{eqb}
use borrow.Author.Tests.{eqb-true}
use Rattle.window.specs.declared.Refilled.{Refilled}
use Rattle.audit_form.specs.Reads.{brought}

both : {b : Bool} → b ≡ true → b ≡ false → ⊥
both t f = true≢false (sym t ∙ f)

and_false : (b : Bool) → b && false ≡ false
and_false true = refl
and_false false = refl

brought_by_lem : (r : Refilled) (b f : Bool) → eqb r.came 0 ≡ b → r.failed ≡ f → brought r ≡ not b && not f
unfolding brought
brought_by_lem r b f e d = ap (λ (x : Bool). not x && not r.failed) e ∙ ap (λ (x : Bool). not b && not x) d

pub some_came : (r : Refilled) → brought r ≡ true → r.came ≡ 0 → ⊥
some_came r e z = both e (brought_by_lem r true r.failed (ap (λ (n : ℕ). eqb n 0) z) refl)

whole_by : (r : Refilled) (f : Bool) → r.failed ≡ f → brought r ≡ true → r.failed ≡ false
whole_by r true k e = absurd (both e (brought_by_lem r (eqb r.came 0) true refl k ∙ and_false (not (eqb r.came 0))))
whole_by r false k e = k

pub whole : (r : Refilled) → brought r ≡ true → r.failed ≡ false
whole r = whole_by r r.failed refl

none_by : (r : Refilled) (b : Bool) → eqb r.came 0 ≡ b → brought r ≡ false → r.failed ≡ false → r.came ≡ 0
none_by r true k e f = eqb-true r.came 0 k
none_by r false k e f = absurd (both (brought_by_lem r false false k f) e)

pub none_came : (r : Refilled) → brought r ≡ false → r.failed ≡ false → r.came ≡ 0
none_came r = none_by r (eqb r.came 0) refl

pub brought-told : (r : Refilled) {n : ℕ} {f : Bool} → n ≡ r.came → f ≡ r.failed → not (eqb n 0) && not f ≡ brought r
unfolding brought
brought-told r {n} {f} e d = ap (λ (x : ℕ). not (eqb x 0) && not f) e ∙ ap (λ (x : Bool). not (eqb r.came 0) && not x) d
