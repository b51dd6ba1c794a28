-- What is handed to the write, and where the loop began.
use Prim.Native.Nat.{ℕ, ◌+◌, ◌≤◌}
use native.Mathlib.Nat.{sub-zero}
use native.Mathlib.Omega.{arith}
use mathlib.Core.Path.{◌≡◌, refl, sym, ap, subst, ◌∙◌}
use mathlib.Core.Bool.{Bool, true, false, not, ◌&&◌, ◌||◌, true≢false}
use borrow.Author.Tests.{not-true, not-false}
use mathlib.Core.List.{List}
use lib.ListN.{length, take, drop}
use lib.Seq.{take_at}
use Rattle.octets.proofs.Choices.{picked, passed}
use Rattle.decimal.specs.Laid.{Puts}
use Rattle.decimal.proofs.Laid.{laid_puts}
use Rattle.session.specs.Lent.{Lent}
use Rattle.receiver.specs.declared.Receiver.{Receiver}
use Rattle.window.specs.Window.{hand, unwritten}
use Rattle.window.specs.Status.{done, against, broken}
use Rattle.window.specs.Turns.{Loops}
use Rattle.window.specs.declared.Written.{Written}
use Rattle.table.specs.declared.Check.{Check}
use Rattle.table.specs.declared.Verdict.{Verdict}
use Rattle.audit_form.specs.declared.Formed.{Formed}
use Rattle.audit_line.specs.Text.{verdict_line, longest_verdict}
use Rattle.audit_line.proofs.Lines.{verdicts_are_short}
use Rattle.audit_turns.specs.Turns.{begun}
use Rattle.audit_turns.specs.declared.State.{State}
use Rattle.audit_run.specs.Loop.{Place, going_at, TurnedAt, place}
use Rattle.audit_run.specs.Told.{first_status, standing, Tells, by_verdict, status_by}

-- the octets handed on are the line
pub says : (v : Verdict) (w : Written) {out out' : List ℕ} {n : ℕ} → longest_verdict ≤ length out
    → Puts longest_verdict (verdict_line v) out 0 out' n → w.size ≡ length (hand out' 0 n) → take w.size out' ≡ verdict_line v
says v w {out} {out'} {n} room p many =
    let t : List ℕ = verdict_line v in
    let l = laid_puts {text = t} (omega (arith, room)) (verdicts_are_short v) p in
    let size : n ≡ length t = omega (arith, l.behind) in
    let all : take n out' ≡ t = ap (take n) l.leaves ∙ take_at t (drop (0 + length t) out) n (sym size) in
    let here : hand out' 0 n ≡ t = ap (λ (k : ℕ). take k out') (sub-zero n) ∙ all in
    ap (λ (k : ℕ). take k out') (many ∙ ap length here ∙ sym size) ∙ all

pub tells_none : (s : State) {b : Bool} {w : Written} {line : List ℕ} → b ≡ standing s → not b ≡ true → w ≡ unwritten → Tells s w line
tells_none s e d k = record { none = λ _. k; text = λ t. absurd (true≢false (sym t ∙ sym e ∙ not-true _ d)) }

pub tells-line : (s : State) {b : Bool} {w : Written} {line : List ℕ} → b ≡ standing s → not b ≡ false
    → take w.size line ≡ verdict_line s.audit.verdict → Tells s w line
tells-line s e d k = record { none = λ f. absurd (true≢false (sym (not-false _ d) ∙ e ∙ f)); text = λ _. k }

pub standing-told : (s : State) {f : Bool} → f ≡ s.audit.read.failed → (not s.going && s.ended) && not f ≡ standing s
unfolding standing
standing-told s e = ap (λ (x : Bool). (not s.going && s.ended) && not x) e

pub began : {s : State} {a : Receiver} {c : Check} {input kept : List ℕ} {l : Lent} {rows : List ℕ} {n : ℕ} {q : Place} → s ≡ begun a c
    → Loops going_at TurnedAt (place s input kept l rows) n q → Loops going_at TurnedAt (place (begun a c) input kept l rows) n q
began {input = input} {kept} {l} {rows} {n} {q} e x = subst (λ (s : State). Loops going_at TurnedAt (place s input kept l rows) n q) e x

-- ---- the status

pub status_broken : (v : Verdict) {f : Bool} → f ≡ true → broken ≡ status_by v f
status_broken v e = ap (status_by v) (sym e)

pub status_of_lem : {v u : Verdict} {f : Bool} → v ≡ u → f ≡ false → by_verdict u ≡ status_by v f
status_of_lem {v} e d = ap by_verdict (sym e) ∙ ap (status_by v) (sym d)

module _ (f : Formed) (c : Check) {b : Bool} (e : b ≡ f.reading.read.failed) where
  same : {x : Bool} → (f.reading.going || b) ≡ x → (f.reading.going || f.reading.read.failed) ≡ x
  same d = ap (λ (y : Bool). f.reading.going || y) (sym e) ∙ d

  pub first-broken : (f.reading.going || b) ≡ true → broken ≡ first_status f c
  unfolding first_status
  first-broken d = picked _ _ _ (same d)

  pub first_good : (f.reading.going || b) ≡ false → c.formed ≡ true → done ≡ first_status f c
  unfolding first_status
  first_good d k = passed _ _ _ _ (same d) (picked _ _ _ k)

  pub first-bad : (f.reading.going || b) ≡ false → c.formed ≡ false → against ≡ first_status f c
  unfolding first_status
  first-bad d k = passed _ _ _ _ (same d) (passed _ _ _ _ k refl)
