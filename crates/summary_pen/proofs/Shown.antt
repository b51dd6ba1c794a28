-- What a text that was said leaves in lent octets.
use Prim.Native.Nat.{ℕ, zero, suc, ◌+◌, ◌-◌}
use native.Mathlib.Omega.{arith}
use mathlib.Core.Path.{◌≡◌, refl, sym, ap, subst, ◌∙◌}
use mathlib.Core.List.{List, [], ◌∷◌, ◌++◌, append_assoc}
use lib.ListN.{length, take, drop, set, length-append}
use lib.Seq.{take-nil, drop-nil, set_at}
use Rattle.octets.specs.Parts.{written}
use Rattle.summary_pen.specs.declared.pen.Pen.{Pen}
use Rattle.summary_pen.specs.Page.{Shows, Page, page, said, Says}
use Rattle.summary_pen.proofs.Saying as saying

abbrev pen : ℕ → ℕ → Pen
pen skip at = record { skip = skip; at = at }

record Ends (text u v : List ℕ) (s a : ℕ) (q : Page) : Type 0 where
  out : q.out ≡ u ++ written (take (length v) (drop s text)) v
  at : q.pen.at ≡ a + length (take (length v) (drop s text))

first : (c : ℕ) (text : List ℕ) (p q : Page) → Says (c ∷ []) p q → said text q ≡ said (c ∷ text) p
unfolding said
first c text p q e = ap (said text) e.leaves

nothing : (text u v : List ℕ) (s a : ℕ) → take (length v) (drop s text) ≡ [] → Ends text u v s a (page (u ++ v) (pen s a))
nothing text u v s a e = record { out = simp e; at = simp e (omega arith) }

ends : (text u v : List ℕ) (s a : ℕ) → length u ≡ a → Ends text u v s a (said text (page (u ++ v) (pen s a)))
unfolding said
ends [] u v s a e = nothing [] u v s a (ap (take (length v)) (drop-nil s) ∙ take-nil (length v))
ends (c ∷ text) u v (suc s) a e =
    let gone : suc s - 1 ≡ s = omega arith in
    let step : said text (page (u ++ v) (pen s a)) ≡ said (c ∷ text) (page (u ++ v) (pen (suc s) a)) =
    ap (λ (k : ℕ). said text (page (u ++ v) (pen k a))) (sym gone)
    ∙ first c text _ _ (saying.skipped c (u ++ v) (pen (suc s) a) (omega arith)) in
    let i = ends text u v s a e in
    record { out = ap (λ (q : Page). q.out) (sym step) ∙ i.out; at = ap (λ (q : Page). q.pen.at) (sym step) ∙ i.at }
ends (c ∷ text) u [] zero a e =
    let step : said text (page (u ++ []) (pen 0 a)) ≡ said (c ∷ text) (page (u ++ []) (pen 0 a)) =
    first c text _ _ (saying.left_out c (u ++ []) (pen 0 a) (omega arith) (simp length-append (omega arith))) in
    let i = ends text u [] 0 a e in
    record { out = ap (λ (q : Page). q.out) (sym step) ∙ i.out; at = ap (λ (q : Page). q.pen.at) (sym step) ∙ i.at }
ends (c ∷ text) u (x ∷ v) zero a e =
    let there : (u ++ (c ∷ [])) ++ v ≡ set (u ++ (x ∷ v)) a c = append_assoc u (c ∷ []) v ∙ sym (set_at u x v c a e) in
    let step : said text (page ((u ++ (c ∷ [])) ++ v) (pen 0 (a + 1))) ≡ said (c ∷ text) (page (u ++ (x ∷ v)) (pen 0 a)) =
    ap (λ (o : List ℕ). said text (page o (pen 0 (a + 1)))) there
    ∙ first c text _ _ (saying.written c (u ++ (x ∷ v)) (pen 0 a) (omega arith) (simp length-append (omega arith))) in
    let i : Ends text (u ++ (c ∷ [])) v 0 (a + 1) (said (c ∷ text) (page (u ++ (x ∷ v)) (pen 0 a))) =
    subst (λ (q : Page). Ends text (u ++ (c ∷ [])) v 0 (a + 1) q) step
    (ends text (u ++ (c ∷ [])) v 0 (a + 1) (simp length-append (omega arith))) in
    record { out = i.out ∙ append_assoc u (c ∷ []) _; at = omega (arith, i.at) }

pub shown-all : (text out : List ℕ) (skip : ℕ) {q : Page} → Says text (page out (pen skip 0)) q → Shows text skip out q.out q.pen.at
shown-all text out skip e =
    let i = ends text [] out skip 0 refl in
    record {
      leaves = ap (λ (p : Page). p.out) e.leaves ∙ i.out;
      many = ap (λ (p : Page). p.pen.at) e.leaves ∙ i.at ∙ omega arith;
    }
