-- Packets alike but for their first numbers: a reading does the same beside them.
use Prim.Native.Nat.{ℕ}
use mathlib.Core.Path.{◌≡◌, ap, ◌∙◌}
use mathlib.Core.Bool.{Bool, true, false}
use mathlib.Core.List.{List, [], ◌∷◌}
use Rattle.octets.specs.Pick.{pick}
use Rattle.rules.specs.Channel.{Handed}
use Rattle.table.specs.Look.{handed, looked}
use Rattle.table.specs.declared.Check.{Check}
use Rattle.table.specs.declared.Looked.{Looked}
use Rattle.audit_rows.specs.Goes.{hand_of, Looks, packet, says, more, none, Going, idle, stays, looks}
use Rattle.audit_rows.specs.declared.Audit.{Audit}
use Rattle.audit_rows.specs.declared.Turned.{Turned}

abbrev pub Alike : List Handed → List Handed → Type 0
Alike [] [] = Unit {0}
Alike (p ∷ ps) (q ∷ qs) = ((p.packet ≡ q.packet) × (p.arrival ≡ q.arrival)) × Alike ps qs
Alike [] (q ∷ qs) = ⊥
Alike (p ∷ ps) [] = ⊥

same_look : (c : Check) (w : List ℕ) (p q : Handed) → (p.packet ≡ q.packet) × (p.arrival ≡ q.arrival) → {l : Looked}
    → l ≡ looked c w (handed p.packet p.arrival) → l ≡ looked c w (handed q.packet q.arrival)
same_look c w p q a e =
    e ∙ ap (λ (x : List ℕ). looked c w (handed x p.arrival)) a.0 ∙ ap (λ (n : ℕ). looked c w (handed q.packet n)) a.1

looks-alike : {a : Audit} {rows piece rows' : List ℕ} {p : Handed} {t : Turned} (q : Handed) → (p.packet ≡ q.packet) ×
    (p.arrival ≡ q.arrival)
    → Looks a rows p t piece rows' → Looks a rows q t piece rows'
looks-alike {a} {rows} {p = p} q e (packet l k d) = packet l (same_look a.check (hand_of a rows) p q e k) d
looks-alike {a} {rows} {p = p} q e (says l v k d) = says l v (same_look a.check (hand_of a rows) p q e k) d
looks-alike {a} {rows} {p = p} q e (more l r g k d s) = more l r g (same_look a.check (hand_of a rows) p q e k) d s
looks-alike {a} {rows} {p = p} q e (none l r g k d z) = none l r g (same_look a.check (hand_of a rows) p q e k) d z

alike-pick : (d : Bool) (p q : Handed) (ps qs : List Handed) → Alike (p ∷ ps) (q ∷ qs) → Alike (pick d ps (p ∷ ps)) (pick d qs (q ∷ qs))
unfolding pick
alike-pick true p q ps qs a = a.1
alike-pick false p q ps qs a = a

pub going-alike : {a b : Audit} {rows piece rows' : List ℕ} {ps : List Handed} → Going a rows ps piece b rows' → (qs : List Handed)
    → Alike ps qs → Going a rows qs piece b rows'
going-alike idle [] l = idle
going-alike idle (q ∷ qs) l = absurd l
going-alike (stays o) qs l = stays o
going-alike (looks g x k) [] l = absurd l
going-alike (looks {h = h} {ps} {t} g x k) (q ∷ qs) l =
    looks g (looks-alike q l.0 x) (going-alike k (pick t.done qs (q ∷ qs)) (alike-pick t.done h q ps qs l))
