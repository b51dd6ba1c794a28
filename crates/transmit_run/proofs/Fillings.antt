-- What is at hand behind the reads of a script.
use Rattle.std.proofs.Common.{◌≡◌, ℕ, ◌≤◌, Bool, true, false, not, eqb, List, [], ◌++◌, length, sym, refl, ap, ◌∙◌, subst, append-nil}
use Rattle.std.proofs.Common.{arith}
use Rattle.window.specs.Window.{hand, unread, Refills}
use Rattle.window.specs.Turns.{none, more, Loops}
use Rattle.window.specs.declared.Refilled.{Refilled}
use Rattle.transmit_run.specs.Filled.{Fills, Stand, stand, start, going_at, Brings, AllAtHand}
use Rattle.transmit_run.specs.declared.Filling.{Filling}

module _ (before : Filling) (script : List ℕ) where
  pub fills-none : {read : Refilled} → length script ≤ before.have → read ≡ unread → Fills before script
      (record { have = before.have; read = read; going = false }) script
  fills-none full e = record {
    piece = [];
    window = sym (append-nil _);
    many = ap (λ (x : Refilled). x.came) (sym e);
    asked = λ h. absurd (omega arith);
    goes = ap (λ (x : Refilled). not (eqb x.came 0)) (sym e);
  }

  pub fills : {script' : List ℕ} {read : Refilled} {have came : ℕ} {going : Bool} → Refills script 0 before.have script' read
      → have ≡ read.have
      → came ≡ read.came → going ≡ not (eqb came 0) → Fills before script (record { have = have; read = read; going = going }) script'
  fills {script'} g h c e = record {
    piece = g.piece;
    window = ap (hand script' 0) h ∙ g.window;
    many = g.many;
    asked = λ _. g.tried;
    goes = e ∙ ap (λ (k : ℕ). not (eqb k 0)) c;
  }

-- the loop began where nothing was read
pub begun : {script : List ℕ} {n : ℕ} {p : Stand} {read : Refilled} → read ≡ unread
    → Loops going_at Brings (stand (record { have = 0; read = read; going = true }) script) n p → Loops going_at Brings
    (stand start script) n p
begun {script} {n} {p} e = subst (λ (x : Refilled). Loops going_at Brings
    (stand (record { have = 0; read = x; going = true }) script) n p) e

pub all-at-hand : AllAtHand
all-at-hand script zero octets p none = refl
all-at-hand script n octets p (more {text = text} {said} {r} {t} turns g x) =
    x.fills.window ∙ ap (λ (y : List ℕ). y ++ x.fills.piece) (all-at-hand script _ text r turns) ∙ ap (λ (y : List ℕ). text ++ y)
    (sym x.brought)
