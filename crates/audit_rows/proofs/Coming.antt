-- The verdict that an audit comes to, by what is read of the rows from here on.
use Prim.Native.Nat.{ℕ, ◌≤◌, ◌<◌}
use native.Mathlib.Decide.{dec_lt}
use native.Mathlib.Omega.{arith}
use mathlib.Core.Path.{◌≡◌, refl, sym, ap, ◌∙◌, subst}
use mathlib.Core.Logic.{inl, inr}
use mathlib.Core.Bool.{Bool, true, false, not, true≢false}
use mathlib.Core.List.{List, [], ◌∷◌, ◌++◌, append-nil, append_assoc}
use lib.ListN.{length, drop}
use Rattle.octets.specs.Pick.{pick}
use Rattle.rules.specs.Channel.{Handed}
use Rattle.window.specs.Window.{hand}
use Rattle.window.proofs.Hands.{hand-behind}
use Rattle.table.specs.Look.{ill_formed, ended}
use Rattle.table.specs.Calls.{Tells, ends}
use Rattle.table.specs.declared.Verdict.{Verdict}
use Rattle.table.specs.declared.Verdict.TheVariants.{Passes}
use Rattle.table.specs.declared.Check.{Check}
use Rattle.table.proofs.Looking.{ends_not, ends-all, ends-short}
use Rattle.audit_form.proofs.Came.{none_came}
use Rattle.audit_rows.specs.Goes.{hand_of, behind, Looks, packet, says, more, none, Going, idle, stays}
use Rattle.audit_rows.specs.Goes.{looks, Filling, full, fills, dry, Ending, stood, tells}
use Rattle.audit_rows.specs.declared.Audit.{Audit}
use Rattle.audit_rows.specs.declared.Turned.{Turned}
use Rattle.audit_rows.proofs.Looks.{Short, look_says, look_goes, look_waits, look_short, rows_short}
use Rattle.audit_rows.proofs.Looks.{rows_end}
use Rattle.audit_rows.proofs.Reading.{empty, both, pick_then, window}

-- ---- the verdict v that an audit comes to, if `next` is what is read of the rows from here on, `rest` is not read any more, and these
-- packets are still to be handed out, or the first of them is at hand

pub data Comes (a : Audit) (rows next rest : List ℕ) (hs : List Handed) (v : Verdict) : Type 0 where
  -- It stands, and nothing more is read.
  stands : a.over ≡ true → a.read.failed ≡ false → next ≡ [] → v ≡ a.verdict → Comes a rows next rest hs v
  -- Training's calls tell it from here on.
  told : a.over ≡ false → Tells a.check (hand_of a rows ++ (next ++ rest)) hs v → Comes a rows next rest hs v
  -- The rows ended before the last of them: the table is shorter than at its first reading.
  fell : a.over ≡ false → Short a.check (hand_of a rows ++ next) → v ≡ ill_formed → Comes a rows next rest hs v

looks-back : {a : Audit} {rows piece rows' : List ℕ} {h : Handed} {t : Turned} → a.over ≡ false → Looks a rows h t piece rows' →
    (next rest : List ℕ) (hs : List Handed) (v : Verdict)
    → Comes t.audit rows' next rest (pick t.done hs (h ∷ hs)) v → Comes a rows (piece ++ next) rest (h ∷ hs) v
unfolding pick
looks-back g (packet l e d) next rest hs v (stands o f n q) = absurd (both o g)
looks-back {a} {rows} {h = h} g (packet l e d) next rest hs v (told o t) =
    told g (look_goes a.check (hand_of a rows) h e (next ++ rest) hs d
    (subst (λ (x : List ℕ). Tells l.check (x ++ (next ++ rest)) hs v) (sym (hand-behind rows a.at a.end l.used)) t))
looks-back {a} {rows} {h = h} g (packet l e d) next rest hs v (fell o s q) =
    fell g (look_short a.check (hand_of a rows) h e next
    (subst (λ (x : List ℕ). Short l.check (x ++ next)) (sym (hand-behind rows a.at a.end l.used)) s)) q
looks-back {a} {rows} {h = h} g (says l u e d) next rest hs v (stands o f n q) =
    told g (subst (Tells a.check (hand_of a rows ++ (next ++ rest)) (h ∷ hs)) (sym q)
    (look_says a.check (hand_of a rows) h e (next ++ rest) hs d))
looks-back g (says l u e d) next rest hs v (told o t) = absurd (true≢false o)
looks-back g (says l u e d) next rest hs v (fell o t q) = absurd (true≢false o)
looks-back g (more l r x e d s) next rest hs v (stands o f n q) = absurd (both o g)
looks-back {a} {rows} {h = h} g (more l {rows'} r x e d s) next rest hs v (told o t) =
    let y : hand rows' 0 r.have ++ (next ++ rest) ≡ drop l.used (hand_of a rows) ++ ((x.piece ++ next) ++ rest) =
    ap (λ (z : List ℕ). z ++ (next ++ rest)) (window a rows l x) ∙ simp append_assoc in
    told g (look_waits a.check (hand_of a rows) h e ((x.piece ++ next) ++ rest) hs d
    (subst (λ (z : List ℕ). Tells l.check z (h ∷ hs) v) y t))
looks-back {a} {rows} {h = h} g (more l {rows'} r x e d s) next rest hs v (fell o t q) =
    let y : hand rows' 0 r.have ++ next ≡ drop l.used (hand_of a rows) ++ (x.piece ++ next) =
    ap (λ (z : List ℕ). z ++ next) (window a rows l x) ∙ append_assoc (drop l.used (hand_of a rows)) x.piece next in
    fell g (look_short a.check (hand_of a rows) h e (x.piece ++ next) (subst (Short l.check) y t)) q
looks-back {a} {rows} {h = h} g (none l {rows'} r x e d z) next rest hs v (stands o f n q) =
    let p : x.piece ≡ [] = empty x.piece (x.many ∙ none_came r z f) in
    let y : hand_of a rows ++ (x.piece ++ next) ≡ hand_of a rows =
    ap (λ (y : List ℕ). hand_of a rows ++ (y ++ next)) p ∙ ap (λ (y : List ℕ). hand_of a rows ++ y) n ∙ append-nil _ in
    let wrong : ended l.check (hand rows' 0 r.have) ≡ ill_formed =
    ap (ended l.check) (window a rows l x ∙ ap (λ (y : List ℕ). drop l.used (hand_of a rows) ++ y) p ∙ append-nil _)
    ∙ rows_end a.check (hand_of a rows) h e d in
    fell g (subst (Short a.check) (sym y) (rows_short a.check (hand_of a rows) h e d)) (q ∙ wrong)
looks-back g (none l r x e d z) next rest hs v (told o t) = absurd (true≢false o)
looks-back g (none l r x e d z) next rest hs v (fell o t q) = absurd (true≢false o)

stays-back : {a : Audit} {rows next rest : List ℕ} {hs : List Handed} {v : Verdict} (ps : List Handed) → a.over ≡ true
    → Comes a rows next rest hs v → Comes a rows next rest ps v
stays-back ps o (stands p f n q) = stands p f n q
stays-back ps o (told p t) = absurd (both o p)
stays-back ps o (fell p s q) = absurd (both o p)

pub going-back : {a b : Audit} {rows piece rows' : List ℕ} {ps : List Handed} → Going a rows ps piece b rows' → (next rest : List ℕ)
    (hs : List Handed) (v : Verdict)
    → Comes b rows' next rest hs v → Comes a rows (piece ++ next) rest (ps ++ hs) v
going-back idle next rest hs v k = k
going-back {ps = ps} (stays o) next rest hs v k = stays-back (ps ++ hs) o k
going-back {a} {rows = rows} (looks {h = h} {ps} {t} {piece} {rows₁} {more = more₁} g x y) next rest hs v k =
    subst (λ (m : List ℕ). Comes a rows m rest (h ∷ (ps ++ hs)) v) (sym (append_assoc piece more₁ next))
    (looks-back g x (more₁ ++ next) rest (ps ++ hs) v
    (subst (λ (z : List Handed). Comes t.audit rows₁ (more₁ ++ next) rest z v) (pick_then t.done h ps hs)
    (going-back y next rest hs v k)))

-- the octets at hand at the end
record Whole (a : Audit) (rows piece : List ℕ) (b : Audit) (rows' : List ℕ) : Type 0 where
  check : b.check ≡ a.check
  hands : hand_of b rows' ≡ hand_of a rows ++ piece

filling-whole : {a b : Audit} {rows piece rows' : List ℕ} → Filling a rows piece b rows' → Whole a rows piece b rows'
filling-whole (full s) = record { check = refl; hands = sym (append-nil _) }
filling-whole {a} {rows = rows} {rows' = rows'} (fills {more = more₁} {b = b} r g s some k) =
    let w = filling-whole k in
    record {
      check = w.check;
      hands = w.hands ∙ ap (λ (x : List ℕ). x ++ more₁) g.window ∙ append_assoc (hand_of a rows) g.piece more₁;
    }
filling-whole (dry r g s z) = record { check = refl; hands = g.window }

module _ (a : Audit) (rows : List ℕ) (going : a.over ≡ false) (piece : List ℕ) where
  -- with so much at hand
  abbrev here : List ℕ
  here = hand_of a rows ++ piece

  by_row : (rest : List ℕ) → 17 ≤ length here → Tells a.check (hand_of a rows ++ (piece ++ rest)) [] (ended a.check here)
  by_row rest l = ends (record { octets = here; behind = rest; cut = sym (append_assoc (hand_of a rows) piece rest) }) (inl l) refl

  by_end : (rest : List ℕ) → {v : Verdict} → v ≡ ended a.check (hand_of a rows ++ (piece ++ rest)) → Tells a.check
      (hand_of a rows ++ (piece ++ rest)) [] v
  by_end rest e = ends (record { octets = hand_of a rows ++ (piece ++ rest); behind = []; cut = sym (append-nil _) }) (inr refl) e

  by_rows : not a.check.formed ≡ false → (rest : List ℕ) → Dec (a.check.row < a.check.rows) → length here < 17
      → Comes a rows piece rest [] (ended a.check here)
  by_rows m rest (yes l) s = fell going (omega (arith, l, s)) (sym (ends-short a.check here m l s))
  by_rows m rest (no l) s =
      let n : a.check.rows ≤ a.check.row = omega (arith, l) in
      told going (by_end rest (sym (ends-all a.check here m n) ∙ ends-all a.check (hand_of a rows ++ (piece ++ rest)) m n))

  by_form : (rest : List ℕ) (g : Bool) → a.check.formed ≡ g → length here < 17 → Comes a rows piece rest [] (ended a.check here)
  by_form rest true e s = by_rows (ap not e) rest (dec_lt _ _) s
  by_form rest false e s =
      told going (by_end rest (sym (ends_not a.check here (ap not e)) ∙ ends_not a.check (hand_of a rows ++ (piece ++ rest))
      (ap not e)))

  by_length : (rest : List ℕ) → Dec (length here < 17) → Comes a rows piece rest [] (ended a.check here)
  by_length rest (yes s) = by_form rest a.check.formed refl s
  by_length rest (no s) = told going (by_row rest (omega (arith, s)))

pub ending-back : {a b : Audit} {rows piece rows' : List ℕ} → Ending a rows piece b rows' → b.read.failed ≡ false → (rest : List ℕ)
    → Comes a rows piece rest [] b.verdict
ending-back (stood o) f rest = stands o f refl refl
ending-back {a} {rows = rows} {piece = piece} {rows' = rows'} (tells {b = b} going k) f rest =
    let w = filling-whole k in
    let v : ended b.check (hand_of b rows') ≡ ended a.check (hand_of a rows ++ piece) =
    ap (ended b.check) w.hands ∙ ap (λ (c : Check). ended c (hand_of a rows ++ piece)) w.check in
    subst (Comes a rows piece rest []) (sym v) (by_length a rows going piece rest (dec_lt _ _))
