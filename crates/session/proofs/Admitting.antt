-- Laws of the gate: refusals 1, 4 and 3.
use Rattle.std.specs.Prelude.{Option, Err, Some, None}
use Prim.Native.Nat.{ℕ}
use native.Mathlib.Omega.{arith}
use mathlib.Core.Path.{◌≡◌, refl, sym, ◌∙◌, subst}
use mathlib.Core.Bool.{Bool, true, false, true≢false}
use lib.Dec.{eqb}
use borrow.Author.Tests.{eq-eqb, ne_eqb, eqb-true, eqb-false}
use Rattle.octets.specs.Pick.{pick}
use Rattle.octets.proofs.Choices.{picks, picked, passed, not_picked}
use Rattle.answer.specs.Told.{plain}
use Rattle.answer.specs.Refusals as no
use Rattle.answer.specs.declared.Refusal.{Refusal}
use Rattle.rules.specs.Limits.{last_number}
use Rattle.session.specs.Channel.{unsound}
use Rattle.session.specs.Lent.{Lent, scant, Enough}
use Rattle.session.specs.Step.{Outcome, refused_at, refused, barred, refusal_if, admitted, Gives}
use Rattle.session.specs.declared.Session.{Session}
use Rattle.session.specs.declared.Stepped.{Stepped}
use Rattle.session.proofs.Lending.{enough, not_scant}

-- what is known where none of them holds
pub record Admits (s : Session) (l : Lent) : Type 0 where
  pub room : Enough l
  pub sound : unsound s ≡ false
  pub numbers : s.arrival ≡ last_number → ⊥

pub admits : (s : Session) (l : Lent) → barred s l ≡ 0 → Admits s l
unfolding barred
admits s l e =
    let h₁ = not_picked (scant l) no.room _ 0 e (λ z. omega arith) in
    let h₂ = not_picked (unsound s) no.session _ 0 h₁.1 (λ z. omega arith) in
    let h₃ = not_picked (eqb s.arrival last_number) no.arrivals 0 0 h₂.1 (λ z. omega arith) in
    record { room = enough l h₁.0; sound = h₂.0; numbers = eqb-false _ _ h₃.0 }

-- what holds of each refusal, and of o where it is reached, holds of what comes of it
pub admitted_picks : (P : Outcome → Type 0) (s : Session) (l : Lent) (o : Outcome) → (Admits s l → P o) →
    ((n : ℕ) → n ≡ barred s l → P (refused s n))
    → P (admitted s l o)
admitted_picks P s l o p q = picks P (eqb (barred s l) 0) o _ (λ e. p (admits s l (eqb-true _ _ e))) (λ e. q (barred s l) refl)

-- a sound session is not barred with 4
pub not_four : (s : Session) (l : Lent) → unsound s ≡ false → barred s l ≡ no.session → ⊥
unfolding barred
not_four s l u =
    picks (λ (n : ℕ). n ≡ no.session → ⊥) (scant l) no.room _ (λ e h. omega arith)
    (λ e. picks (λ (n : ℕ). n ≡ no.session → ⊥) (unsound s) no.session _ (λ e h. absurd (true≢false (sym e ∙ u)))
    (λ e. picks (λ (n : ℕ). n ≡ no.session → ⊥) (eqb s.arrival last_number) no.arrivals 0 (λ e h. omega arith) (λ e h. omega arith)))

-- with enough lent, a sound session refuses with 3 alone
pub roomy : (s : Session) (l : Lent) (o : Outcome) → Enough l → unsound s ≡ false
    → admitted s l o ≡ pick (eqb s.arrival last_number) (refused s no.arrivals) o
unfolding barred pick
roomy s l o k u = go (eqb s.arrival last_number) refl
  where
    go : (b : Bool) → eqb s.arrival last_number ≡ b → admitted s l o ≡ pick b (refused s no.arrivals) o
    go true e = rw (not_scant l k, u, e)
    go false e = rw (not_scant l k, u, e)

-- ---- what is given

abbrev pub turned_down : Session → Refusal → Stepped
turned_down s r = record { session = s; answer = Err r }

pub gives-refused : (s : Session) (r : Refusal) (l : Lent) → Gives (refused_at s r.number r.octet) (turned_down s r) l l
gives-refused s r l = record { session = refl; answers = refl; leaves = refl }

-- of a refusal that tells no octet
pub gives-plain : (s : Session) (n : ℕ) {r : Refusal} → r ≡ plain n → (l : Lent) → Gives (refused s n) (turned_down s r) l l
gives-plain s n e l = subst (λ (x : Refusal). Gives (refused s n) (turned_down s x) l l) (sym e) (gives-refused s (plain n) l)

-- what the gate answers, by the refusal's number
refused_by : (n : ℕ) {r : Refusal} → Some r ≡ refusal_if n → (n ≡ 0 → ⊥) × (r ≡ plain n)
refused_by n {r} e =
    let h = not_picked (eqb n 0) None (Some (plain n)) (Some r) (sym e) (λ h. cc) in
    let p = h.1 in
    (eqb-false n 0 h.0, cc)

open_by : (n : ℕ) → None ≡ refusal_if n → n ≡ 0
open_by n e =
    picks (λ (o : Option Refusal). None ≡ o → n ≡ 0) (eqb n 0) None (Some (plain n)) (λ b h. eqb-true n 0 b) (λ b h. cc) e

-- with what the gate answered
module _ (s : Session) (l : Lent) {a : Option Refusal} (e : a ≡ refusal_if (barred s l)) where
  pub bars : {r : Refusal} → a ≡ Some r → (o : Outcome) → Gives (admitted s l o) (turned_down s r) l l
  bars {r} h o =
      let b = refused_by (barred s l) (sym h ∙ e) in
      subst (λ (x : Outcome). Gives x (turned_down s r) l l)
      (passed (eqb (barred s l) 0) o (refused s (barred s l)) (refused s (barred s l)) (ne_eqb (barred s l) 0 b.0) refl)
      (gives-plain s (barred s l) b.1 l)

  pub opens : a ≡ None → Admits s l
  opens h = admits s l (open_by (barred s l) (sym h ∙ e))

  pub passes : a ≡ None → (o : Outcome) (r : Stepped) (l' : Lent) → Gives o r l l' → Gives (admitted s l o) r l l'
  passes h o r l' g =
      subst (λ (x : Outcome). Gives x r l l')
      (picked (eqb (barred s l) 0) o (refused s (barred s l)) (eq-eqb (barred s l) 0 (open_by (barred s l) (sym h ∙ e)))) g
