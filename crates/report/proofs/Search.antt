-- Laws of the table's search and tests.
use Rattle.std.specs.Prelude.{Some}
use Prim.Native.Nat.{ℕ}
use native.Mathlib.Omega.{arith}
use mathlib.Core.Path.{◌≡◌, refl, subst}
use mathlib.Core.List.{List, [], ◌∷◌}
use mathlib.Core.Bool.{Bool, true, false, ◌&&◌, ◌||◌}
use lib.Dec.{eqb}
use Rattle.std.specs.List.{find}
use borrow.Author.Tests.{eqb-true}
use Rattle.octets.specs.Pick.{pick}
use Rattle.octets.proofs.Tests.{and_true_left, and_true_right}
use Rattle.report.specs.Table.{first}
use Rattle.report.specs.declared.table.Pair.{Pair}

-- the pair of a service type and subtype, as the code tests it
abbrev pub here : ℕ → ℕ → Pair → Bool
here service subtype p = eqb p.service service && eqb p.subtype subtype

pub first_found : (service subtype : ℕ) (l : List Pair) → find (here service subtype) l ≡ first service subtype l
unfolding pick
first_found service subtype [] = refl
first_found service subtype (p ∷ ps) = by (here service subtype p) refl (first_found service subtype ps)
  where
    by : (b : Bool) → here service subtype p ≡ b → find (here service subtype) ps ≡ first service subtype ps
        → find (here service subtype) (p ∷ ps) ≡ first service subtype (p ∷ ps)
    by true e h = rw e
    by false e h = rw e h

-- one service type and three subtypes, as the code tests them
pub of_one : (s a b c : Bool) → (s && (a || b || c)) ≡ ((s && a) || (s && b) || (s && c))
of_one true a b c = refl
of_one false a b c = refl

-- every pair of the list has Q
abbrev pub Each : (Pair → Type 0) → List Pair → Type 0
Each Q [] = Unit
Each Q (p ∷ ps) = Q p × Each Q ps

-- the pair that the search finds
pub record Hit (Q : Pair → Type 0) (a b : ℕ) (p : Pair) : Type 0 where
  pub holds : Q p
  pub service : p.service ≡ a
  pub subtype : p.subtype ≡ b

module _ (Q : Pair → Type 0) (a b : ℕ) {q : Pair} where
  one : (p : Pair) (ps : List Pair) → Q p → (first a b ps ≡ Some q → Hit Q a b q)
      → (t : Bool) → (eqb p.service a && eqb p.subtype b) ≡ t → pick t (Some p) (first a b ps) ≡ Some q → Hit Q a b q
  unfolding pick
  one p ps h later true t e =
      let same : p ≡ q = cc in
      subst (Hit Q a b) same
      (record {
        holds = h;
        service = eqb-true _ _ (and_true_left (eqb p.service a) (eqb p.subtype b) t);
        subtype = eqb-true _ _ (and_true_right (eqb p.service a) (eqb p.subtype b) t);
      })
  one p ps h later false t e = later e

  pub hit : (l : List Pair) → Each Q l → first a b l ≡ Some q → Hit Q a b q
  hit [] hs e = let z : ◌≡◌ {A = ℕ} 0 1 = cc in absurd (omega arith)
  hit (p ∷ ps) hs e = one p ps hs.0 (hit ps hs.1) _ refl e
