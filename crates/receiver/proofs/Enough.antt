-- Whatever is lent beyond what is enough, the outcome is the same.
use Prim.Native.Nat.{ℕ, ◌≤◌}
use mathlib.Core.Path.{◌≡◌, refl, sym, ap, ◌∙◌}
use mathlib.Core.List.{List, map}
use mathlib.Core.Bool.{Bool, false}
use native.Mathlib.Omega.{arith}
use lib.Dec.{eqb}
use lib.ListN.{length, drop, length-append, length-drop, length-replicate}
use borrow.Author.Tests.{le-ltb}
use Rattle.octets.specs.Pick.{pick}
use Rattle.octets.specs.Parts.{written}
use Rattle.answer.specs.Refusals as no
use Rattle.stretch.specs.Stretch.{Stretch, found, unread}
use Rattle.frame.specs.Frame.{read_frame}
use Rattle.rules.specs.Limits.{last_number}
use Rattle.rules.specs.Channel.{Handed}
use Rattle.rules.specs.Packets.{bare, joined, firsts}
use Rattle.session.specs.Channel.{unsound}
use Rattle.session.specs.Lent.{Lent, scant, Enough, laid}
use Rattle.session.specs.Step.{Outcome, barred, refused, counted, heeded, admitted, outcome, turned_away}
use Rattle.session.specs.Statements.{offered}
use Rattle.session.specs.declared.Session.{Session}
use Rattle.receiver.specs.Run.{roomy}

-- enough was lent
open_gate : (l : Lent) → Enough l → scant l ≡ false
open_gate l e = simp (le-ltb _ _ e.octets, le-ltb _ _ e.lengths, le-ltb _ _ e.firsts)

pub roomy-enough : Enough roomy
unfolding roomy
roomy-enough =
    let entries = length-replicate {A = ℕ} 16 0 in
    record { octets = omega (arith, length-replicate {A = ℕ} 501 0); lengths = omega arith; firsts = omega arith }

-- the refusal at the gate, by whether too little was lent
gate : Session → Bool → ℕ
gate s scanty = pick scanty no.room (pick (unsound s) no.session (pick (eqb s.arrival last_number) no.arrivals 0))

by_gate : (s : Session) (l : Lent) → barred s l ≡ gate s (scant l)
unfolding barred gate
by_gate s l = refl

same_gate : (s : Session) (l : Lent) → Enough l → barred s l ≡ barred s roomy
same_gate s l e = by_gate s l ∙ ap (gate s) (open_gate l e ∙ sym (open_gate roomy roomy-enough)) ∙ sym (by_gate s roomy)

same-admitted : (s : Session) (l : Lent) → Enough l → (o : Outcome) → admitted s l o ≡ admitted s roomy o
same-admitted s l e o = ap (λ (n : ℕ). pick (eqb n 0) o (refused s n)) (same_gate s l e)

pub same_outcome : (s : Session) (x : Stretch) (l : Lent) → Enough l → offered s x l ≡ offered s x roomy
unfolding outcome turned_away
same_outcome s (found x) l e = same-admitted s l e (heeded (counted s) x (read_frame s.t x))
same_outcome s (unread m) l e = same-admitted s l e (refused (counted s) m)

-- what was enough is still enough with packets in it
longer : (s l : List ℕ) → length l ≤ length (written s l)
longer s l = omega (arith, length-append s (drop (length s) l), length-drop (length s) l)

pub still_enough : (ps : List Handed) (l : Lent) → Enough l → Enough (laid ps l)
still_enough ps l e = record {
  octets = omega (arith, e.octets, longer (joined (bare ps)) l.octets);
  lengths = omega (arith, e.lengths, longer (map length (bare ps)) l.lengths);
  firsts = omega (arith, e.firsts, longer (firsts ps) l.firsts);
}
