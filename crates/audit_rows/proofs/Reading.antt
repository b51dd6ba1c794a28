-- What the second reading comes to.
use Prim.Native.Nat.{ℕ, suc, ◌+◌, ◌-◌, ◌*◌, ◌≤◌, ◌<◌}
use native.Mathlib.Nat.{sub-zero}
use native.Mathlib.Omega.{arith}
use mathlib.Core.Path.{◌≡◌, refl, sym, ap, ◌∙◌, subst}
use mathlib.Core.Bool.{Bool, true, false, true≢false}
use mathlib.Core.List.{List, [], ◌∷◌, ◌++◌, append_assoc}
use lib.ListN.{length, take, drop, length-append, length-drop}
use lib.Seq.{length-take-le}
use Rattle.octets.specs.Pick.{pick}
use Rattle.rules.specs.Channel.{Handed}
use Rattle.window.specs.Window.{hand, Refills, unread}
use Rattle.window.specs.declared.Refilled.{Refilled}
use Rattle.window.proofs.Hands.{hand-behind, take_short}
use Rattle.table.specs.Look.{handed, looked, ended}
use Rattle.table.specs.declared.Verdict.{Verdict}
use Rattle.table.specs.declared.Verdict.TheVariants.{Passes}
use Rattle.table.specs.declared.Check.{Check}
use Rattle.table.specs.declared.Looked.{Looked}
use Rattle.table.specs.declared.Wanted.TheVariants as wanted
use Rattle.audit_form.specs.Reads.{brought}
use Rattle.audit_form.proofs.Came.{some_came}
use Rattle.audit_rows.specs.Goes.{fresh, stopped, hand_of, behind, having, turned, Looks, packet, says, more, none, Going, idle, stays}
use Rattle.audit_rows.specs.Goes.{looks, missing, Filling, full, fills, dry, Ending, stood, tells, Turns, Goes, Fills, Ends}
use Rattle.audit_rows.specs.declared.Audit.{Audit}
use Rattle.audit_rows.specs.declared.Turned.{Turned}
use Rattle.audit_rows.proofs.Looks.{used-inside, rows_fewer}

pub empty : (l : List ℕ) → length l ≡ 0 → l ≡ []
empty [] h = refl
empty (x ∷ l) h = absurd (omega arith)

pub both : {b : Bool} → b ≡ true → b ≡ false → ⊥
both t f = true≢false (sym t ∙ f)

-- no row is read yet
pub freshly : (c : Check) {r : Refilled} → r ≡ unread
    → ◌≡◌ {A = Audit} (record { check = c; at = 0; end = 0; over = false; read = r; verdict = Passes }) (fresh c)
freshly c e = ap (λ (x : Refilled). record { check = c; at = 0; end = 0; over = false; read = x; verdict = Passes }) e

-- behind a read, with so many octets at hand
abbrev pub holding : Audit → ℕ → Refilled → Audit
holding a n r = record { check = a.check; at = 0; end = n; over = a.over; read = r; verdict = a.verdict }

-- ---- what a call did

module _ (a : Audit) (rows packet₁ : List ℕ) (arrival : ℕ) {w : List ℕ} (same : w ≡ hand_of a rows) {l : Looked}
    (m : l ≡ looked a.check w (handed packet₁ arrival)) where
  abbrev h : Handed
  h = handed packet₁ arrival

  e : l ≡ looked a.check (hand_of a rows) h
  e = m ∙ ap (λ (x : List ℕ). looked a.check x h) same

  pub used-left : l.used ≤ length rows - a.at
  used-left =
      omega (arith, used-inside a.check (hand_of a rows) h e, take_short (a.end - a.at) (drop a.at rows), length-drop a.at rows)

  pub turns-packet : l.wanted ≡ wanted.Packet → Turns a rows h (turned (behind a l) true) rows
  turns-packet d = record { piece = []; looks = packet l e d }

  pub turns-verdict : {u : Verdict} {b : Audit} → l.wanted ≡ wanted.Nothing u → b ≡ stopped (behind a l) u → Turns a rows h
      (turned b true) rows
  turns-verdict {u} d s =
      record { piece = []; looks = subst (λ (b : Audit). Looks a rows h (turned b true) [] rows) (sym s) (says l u e d) }

  module _ (d : l.wanted ≡ wanted.Rows) {rows' : List ℕ} {r : Refilled} (g : Refills rows (a.at + l.used) a.end rows' r)
      {n : ℕ} (same-have : n ≡ r.have) where
    pub turns-rows : brought r ≡ true → Turns a rows h (turned (holding (behind a l) n r) false) rows'
    turns-rows some =
        subst (λ (k : ℕ). Turns a rows h (turned (holding (behind a l) k r) false) rows') (sym same-have)
        (record { piece = g.piece; looks = more l r g e d some })

    pub turns-end : brought r ≡ false → {u : Verdict} {s : List ℕ} → s ≡ hand rows' 0 n → u ≡ ended l.check s → {b : Audit}
        → b ≡ stopped (holding (behind a l) n r) u → Turns a rows h (turned b true) rows'
    turns-end z {u} x k {b} j =
        let v = j ∙ ap (λ (m : ℕ). stopped (holding (behind a l) m r) u) same-have
        ∙ ap (λ (y : Verdict). stopped (having (behind a l) r) y)
        (k ∙ ap (ended l.check) (x ∙ ap (λ (m : ℕ). hand rows' 0 m) same-have)) in
        record {
          piece = g.piece;
          looks = subst (λ (y : Audit). Looks a rows h (turned y true) g.piece rows') (sym v)
              (none l r g e d z);
        }

-- ---- one after another

pub pick_then : (d : Bool) (h : Handed) (ps hs : List Handed) → pick d ps (h ∷ ps) ++ hs ≡ pick d (ps ++ hs) (h ∷ (ps ++ hs))
unfolding pick
pick_then true h ps hs = refl
pick_then false h ps hs = refl

stays_then : {a c : Audit} {rows rows₂ q : List ℕ} {qs : List Handed} (ps : List Handed) → a.over ≡ true → Going a rows qs q c rows₂
    → Going a rows ps q c rows₂
stays_then ps o idle = stays o
stays_then ps o (stays p) = stays o
stays_then ps o (looks g x k) = absurd (both o g)

pub going_then : {a b c : Audit} {rows rows₁ rows₂ p q : List ℕ} {ps : List Handed} (qs : List Handed) → Going a rows ps p b rows₁
    → Going b rows₁ qs q c rows₂
    → Going a rows (ps ++ qs) (p ++ q) c rows₂
going_then qs idle y = y
going_then {ps = ps} qs (stays o) y = stays_then (ps ++ qs) o y
going_then {a} {c = c} {rows} {rows₂ = rows₂} {q = q} qs (looks {h = h} {ps} {t} {piece} {rows₁} {more = more₁} g x k) y =
    subst (λ (m : List ℕ). Going a rows (h ∷ (ps ++ qs)) m c rows₂) (sym (append_assoc piece more₁ q))
    (looks g x (subst (λ (z : List Handed). Going t.audit rows₁ z (more₁ ++ q) c rows₂) (pick_then t.done h ps qs)
    (going_then qs k y)))

pub goes_none : (a : Audit) (rows : List ℕ) → Goes a rows [] a rows
goes_none a rows = record { piece = []; going = idle }

pub goes_then : {a b c : Audit} {rows rows₁ rows₂ : List ℕ} {ps qs : List Handed} → Goes a rows ps b rows₁ → Goes b rows₁ qs c rows₂
    → Goes a rows (ps ++ qs) c rows₂
goes_then {qs = qs} x y = record { piece = x.piece ++ y.piece; going = going_then qs x.going y.going }

-- Turns beside one packet: it is done with it, or not.
pub record Beside (a : Audit) (rows : List ℕ) (h : Handed) (b : Audit) (done : Bool) (rows' : List ℕ) : Type 0 where
  pub piece : List ℕ
  pub goes : (c : Audit) (q rows₂ : List ℕ) → Going b rows' (pick done [] (h ∷ [])) q c rows₂ → Going a rows (h ∷ []) (piece ++ q) c rows₂
  pub going_on : done ≡ false → b.over ≡ false

looks_on : {a : Audit} {rows piece rows' : List ℕ} {h : Handed} {t : Turned} → a.over ≡ false → Looks a rows h t piece rows'
    → t.done ≡ false → t.audit.over ≡ false
looks_on g (packet l e d) f = absurd (true≢false f)
looks_on g (says l v e d) f = absurd (true≢false f)
looks_on g (more l r x e d s) f = g
looks_on g (none l r x e d z) f = absurd (true≢false f)

module _ (a : Audit) (rows : List ℕ) (h : Handed) where
  over-back : (b : Bool) → a.over ≡ b → (c : Audit) (q rows₂ : List ℕ) → Going a rows (pick b [] (h ∷ [])) q c rows₂ → Going a rows
      (h ∷ []) q c rows₂
  unfolding pick
  over-back true e c q rows₂ k = stays_then (h ∷ []) e k
  over-back false e c q rows₂ k = k

  pub no_turn : Beside a rows h a a.over rows
  no_turn = record { piece = []; goes = over-back a.over refl; going_on = λ e. e }

  pub one_turn : {b : Audit} {done : Bool} {t : Turned} {rows₁ rows₂ : List ℕ} → Beside a rows h b done rows₁ → done ≡ false
      → Turns b rows₁ h t rows₂
      → Beside a rows h t.audit t.done rows₂
  unfolding pick
  one_turn {b} {rows₁ = rows₁} x e y = record {
    piece = x.piece ++ y.piece;
    goes = λ c q rows₃ k.
        subst (λ (m : List ℕ). Going a rows (h ∷ []) m c rows₃) (sym (append_assoc x.piece y.piece q))
        (x.goes c (y.piece ++ q) rows₃
        (subst (λ (d : Bool). Going b rows₁ (pick d [] (h ∷ [])) (y.piece ++ q) c rows₃) (sym e) (looks (x.going_on e) y.looks k)));
    going_on = looks_on (x.going_on e) y.looks;
  }

  pub all-turns : {b : Audit} {done : Bool} {rows₁ : List ℕ} → Beside a rows h b done rows₁ → done ≡ true → Goes a rows (h ∷ []) b rows₁
  unfolding pick
  all-turns {b} {done} {rows₁} x e =
      record {
        piece = x.piece ++ [];
        going = x.goes b [] rows₁ (subst (λ (d : Bool). Going b rows₁ (pick d [] (h ∷ [])) [] b rows₁) (sym e) idle);
      }

-- how many turns there can be
unfoldable pub turns_left : Audit → List ℕ → Bool → ℕ
turns_left a rows done = pick done 0 (suc (missing a rows))

-- the octets at hand after a read
module _ (a : Audit) (rows : List ℕ) (l : Looked) {rows' : List ℕ} {r : Refilled}
    (g : Refills rows (a.at + l.used) a.end rows' r) where
  pub window : hand rows' 0 r.have ≡ drop l.used (hand_of a rows) ++ g.piece
  window = g.window ∙ ap (λ (x : List ℕ). x ++ g.piece) (sym (hand-behind rows a.at a.end l.used))

looks_less : {a : Audit} {rows piece rows' : List ℕ} {h : Handed} {t : Turned} → Looks a rows h t piece rows' → t.done ≡ false → missing
    t.audit rows' < missing a rows
looks_less (packet l e d) f = absurd (true≢false f)
looks_less (says l v e d) f = absurd (true≢false f)
looks_less {a} {rows} {h = h} (more l r g e d s) f =
    subst (λ (x : List ℕ). 17 * (l.check.rows - l.check.row) - length x < missing a rows) (sym (window a rows l g))
    (rows_fewer a.check (hand_of a rows) h e d g.piece (omega (arith, g.many, some_came r s)))
looks_less (none l r g e d z) f = absurd (true≢false f)

fewer_by : (d : Bool) (m n : ℕ) → (d ≡ false → m < n) → pick d 0 (suc m) < suc n
unfolding pick
fewer_by true m n less = omega arith
fewer_by false m n less = omega (arith, less refl)

pub fewer_turns : {b : Audit} {rows₁ : List ℕ} {done : Bool} {h : Handed} {t : Turned} {rows₂ : List ℕ} → done ≡ false
    → Turns b rows₁ h t rows₂
    → turns_left t.audit rows₂ t.done < turns_left b rows₁ done
unfolding turns_left pick
fewer_turns {b} {rows₁} {t = t} {rows₂} e y =
    subst (λ (d : Bool). pick t.done 0 (suc (missing t.audit rows₂)) < pick d 0 (suc (missing b rows₁))) (sym e)
    (fewer_by t.done (missing t.audit rows₂) (missing b rows₁) (looks_less y.looks))

-- ---- no packet comes any more

-- Reads so far: whatever is read from here on was read from there on.
pub record Filled (a : Audit) (rows : List ℕ) (b : Audit) (rows' : List ℕ) : Type 0 where
  pub piece : List ℕ
  pub fills : (c : Audit) (q rows₂ : List ℕ) → Filling b rows' q c rows₂ → Filling a rows (piece ++ q) c rows₂

pub none_filled : (a : Audit) (rows : List ℕ) → Filled a rows a rows
none_filled a rows = record { piece = []; fills = λ c q rows₂ k. k }

module _ {a b : Audit} {rows rows₁ rows₂ : List ℕ} {r : Refilled} (f : Filled a rows b rows₁) (g : Refills rows₁ b.at b.end rows₂ r)
    (s : length (hand_of b rows₁) < 17)
    {n : ℕ} (same-have : n ≡ r.have) where
  pub more-filled : brought r ≡ true → Filled a rows (holding b n r) rows₂
  more-filled some =
      subst (λ (k : ℕ). Filled a rows (holding b k r) rows₂) (sym same-have)
      (record {
        piece = f.piece ++ g.piece;
        fills = λ c q rows₃ k.
            subst (λ (m : List ℕ). Filling a rows m c rows₃) (sym (append_assoc f.piece g.piece q))
            (f.fills c (g.piece ++ q) rows₃ (fills r g s some k));
      })

  pub dry-filled : brought r ≡ false → Fills a rows (holding b n r) rows₂
  dry-filled z =
      subst (λ (k : ℕ). Fills a rows (holding b k r) rows₂) (sym same-have)
      (record { piece = f.piece ++ g.piece; filling = f.fills _ g.piece rows₂ (dry r g s z) })

-- so many are at hand
pub here_now : {input input' : List ℕ} {at end : ℕ} {r : Refilled} → Refills input at end input' r → r.have ≡ length
    (hand input' 0 r.have)
here_now {input' = input'} {r = r} g =
    sym (ap (λ (k : ℕ). length (take k input')) (sub-zero r.have) ∙ length-take-le r.have input' g.inside)

pub here_by : {input input' : List ℕ} {at end n : ℕ} {r : Refilled} → Refills input at end input' r → n ≡ r.have → n ≡ length
    (hand input' 0 n)
here_by {input' = input'} g e = subst (λ (k : ℕ). k ≡ length (hand input' 0 k)) (sym e) (here_now g)

pub full-filled : {a b : Audit} {rows rows₁ : List ℕ} → Filled a rows b rows₁ → 17 ≤ length (hand_of b rows₁) → Fills a rows b rows₁
full-filled {b = b} {rows₁ = rows₁} f s = record { piece = f.piece ++ []; filling = f.fills b [] rows₁ (full s) }

pub more-here : {input input' : List ℕ} {at end n : ℕ} {r : Refilled} → Refills input at end input' r → n ≡ length (hand input at end)
    → brought r ≡ true → n < r.have
more-here {input} {at = at} {end} {r = r} g e some =
    omega (arith, here_now g, ap length g.window, length-append (hand input at end) g.piece, g.many, some_came r some)

module _ (a : Audit) (rows : List ℕ) where
  pub ends-over : a.over ≡ true → Ends a rows a rows
  ends-over o = record { piece = []; ending = stood o }

  pub ends-told : a.over ≡ false → {b : Audit} {rows₁ : List ℕ} → Fills a rows b rows₁ → {w : List ℕ} {u : Verdict} {z : Audit}
      → w ≡ hand_of b rows₁ → u ≡ ended b.check w → z ≡ stopped b u → Ends a rows z rows₁
  ends-told going {b} {rows₁} f x k s =
      let v = s ∙ ap (λ (y : Verdict). stopped b y) (k ∙ ap (ended b.check) x) in
      record { piece = f.piece; ending = subst (λ (y : Audit). Ending a rows f.piece y rows₁) (sym v) (tells going f.filling) }
