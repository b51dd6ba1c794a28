-- The window's octets, one after another, as the loop takes them.
use Prim.Native.Nat.{ℕ, suc, ◌+◌, ◌≤◌, ◌<◌}
use mathlib.Core.Path.{◌≡◌, refl, sym, ap, ◌∙◌}
use mathlib.Core.Bool.{Bool, true, false}
use mathlib.Core.List.{List, ◌∷◌}
use native.Mathlib.Omega.{arith}
use native.Mathlib.Numerals.{add-one}
use lib.ListN.{length, get_or, drop, drop_of_length-le}
use lib.Seq.{drop-cons}
use Rattle.octets.specs.Pick.{pick}
use Rattle.stretch.specs.declared.Found.{Found}
use Rattle.stretch.specs.declared.Found.TheVariants.{Nothing, Frame, Refused}
use Rattle.rawbits.specs.Reader.{Standing, Passing, octet_passed, Outcome, nothing, scanned}

-- the outcome of a scan that starts behind i octets
abbrev ahead : ℕ → Outcome → Outcome
ahead i r = record { standing = r.standing; used = i + r.used; found = r.found }

scan-on : (s : Standing) (x : ℕ) (w : List ℕ) (i : ℕ) → nothing (octet_passed s x).found ≡ true
    → ahead (i + 1) (scanned (octet_passed s x).standing w) ≡ ahead i (scanned s (x ∷ w))
unfolding scanned pick
scan-on s x w i e =
    let r = scanned (octet_passed s x).standing w in
    simp e (ap (λ (n : ℕ). record { standing = r.standing; used = n; found = r.found })
    (let z : i + 1 + r.used ≡ i + suc r.used = omega arith in z))

scan-stop : (s : Standing) (x : ℕ) (w : List ℕ) (i : ℕ) → nothing (octet_passed s x).found ≡ false
    → record { standing = (octet_passed s x).standing; used = i + 1; found = (octet_passed s x).found } ≡ ahead i (scanned s (x ∷ w))
unfolding scanned pick
scan-stop s x w i e = simp e

pub nothing_true : {f : Found} {t : Bool} → f ≡ Nothing → t ≡ true → t ≡ nothing f
nothing_true e d = d ∙ sym (ap nothing e)

pub nothing_false : (f : Found) {t : Bool} → (f ≡ Nothing → ⊥) → t ≡ false → t ≡ nothing f
nothing_false Nothing n d = absurd (n refl)
nothing_false (Frame k) n d = d
nothing_false (Refused r) n d = d

pub record Scans (a : Standing) (w : List ℕ) (s : Standing) (i : ℕ) : Type 0 where
  pub inside : i ≤ length w
  pub same : ahead i (scanned s (drop i w)) ≡ scanned a w

pub scans-first : (a : Standing) (w : List ℕ) → Scans a w a 0
scans-first a w =
    record {
      inside = omega arith;
      same = ap (λ (n : ℕ). record { standing = (scanned a w).standing; used = n; found = (scanned a w).found })
          (omega arith);
    }

module _ {a : Standing} {w : List ℕ} {s : Standing} {i : ℕ} (t : Scans a w s i) where
  module _ (h : i < length w) {p : Passing} (e : p ≡ octet_passed s (get_or w i 0)) {t₁ : Bool} (n : t₁ ≡ nothing p.found) where
    here : drop i w ≡ get_or w i 0 ∷ drop (i + 1) w
    here = drop-cons w i 0 h ∙ ap (λ (k : ℕ). get_or w i 0 ∷ drop k w) (sym (add-one i))

    pub scans-next : t₁ ≡ true → Scans a w p.standing (i + 1)
    scans-next l =
        record {
          inside = omega arith;
          same =
              ap (λ (q : Passing). ahead (i + 1) (scanned q.standing (drop (i + 1) w))) e
              ∙ scan-on s (get_or w i 0) (drop (i + 1) w) i (sym (ap (λ (q : Passing). nothing q.found) e) ∙ sym n ∙ l)
              ∙ sym (ap (λ (v : List ℕ). ahead i (scanned s v)) here) ∙ t.same;
        }

    pub scans-told : t₁ ≡ false → record { standing = p.standing; used = i + 1; found = p.found } ≡ scanned a w
    scans-told l =
        ap (λ (q : Passing). record { standing = q.standing; used = i + 1; found = q.found }) e
        ∙ scan-stop s (get_or w i 0) (drop (i + 1) w) i (sym (ap (λ (q : Passing). nothing q.found) e) ∙ sym n ∙ l)
        ∙ sym (ap (λ (v : List ℕ). ahead i (scanned s v)) here) ∙ t.same

  pub scans-end : i ≤ length w → length w ≤ i → record { standing = s; used = length w; found = Nothing } ≡ scanned a w
  unfolding scanned
  scans-end h l =
      ap (λ (n : ℕ). record { standing = s; used = n; found = Nothing }) (let z : length w ≡ i + 0 = omega arith in z)
      ∙ sym (ap (λ (v : List ℕ). ahead i (scanned s v)) (drop_of_length-le w l)) ∙ t.same
