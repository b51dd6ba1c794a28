use Rattle.std.proofs.Common.{◌≡◌, ℕ, zero, suc, length, List, [], Bor, drop, take, Option, None, Some, arith, refl, ap, sym, ◌∙◌, length-drop, drop_of_length-le}
use lib.Seq.{take_all}
use Rattle.std.specs.Option.{unwrap_or}
use Rattle.std.specs.Slice.{IsGetRangeResult}
use Rattle.octets.proofs.Choices.{picks}
use native.Mathlib.Numerals.{unary_clauses}
use Rattle.octets.specs.Parts.{part}
use Rattle.octets.proofs.Placing.{part_none, part-some}
use Rattle.octets.proofs.part.Goals as goal

-- what stands from index at on
behind : (s : List ℕ) (at : ℕ) (r : Option (Bor (List ℕ))) (e : Bor (List ℕ)) → e.now ≡ [] → IsGetRangeResult s at (length s) r
    → (unwrap_or r e).now ≡ drop at s
behind s at (Some x) e n h = h.0.2 ∙ take_all _ _ (let l = length-drop at s in omega arith)
behind s at None e n h = n ∙ sym (drop_of_length-le s (omega (arith, h.0)))

none : (s : List ℕ) (at : ℕ) → [] ≡ part s at 0
unfolding part
none s at = picks (λ (x : List ℕ). [] ≡ x) _ [] _ (λ h. refl) (λ h. refl)

-- the first n of it
first : (s t : List ℕ) (at n : ℕ) (r : Option (Bor (List ℕ))) (e : Bor (List ℕ)) → e.now ≡ [] → t ≡ drop at s → IsGetRangeResult t 0 n r
    → (unwrap_or r e).now ≡ part s at n
first s t at zero (Some x) e z d h = h.0.2 ∙ none s at
first s t at (suc n) (Some x) e z d h =
    simp unary_clauses at h.0.2 ∙ ap (take (suc n)) d
    ∙ part-some s at (suc n) (let l = length-drop at s in let k = ap length d in omega (arith, h.0))
first s t at n None e z d h = z ∙ part_none s at n (let l = length-drop at s in let k = ap length d in omega (arith, h.0))

pub returns : goal.returns
returns c =
    let a = c.args in
    ap (λ (b : Bor (List ℕ)). b.now) c.unwrap_or.ensures ∙ first a.s.now _ a.at a.n c.get-2.result _ refl (ap (λ (b : Bor (List ℕ)). b.now) c.unwrap_or-rest.ensures ∙ behind a.s.now a.at c.get.result _ refl c.get.ensures.lookup) c.get-2.ensures.lookup
