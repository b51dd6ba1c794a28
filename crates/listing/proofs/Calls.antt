-- The text that a call leaves is the next part of what is to come.
use Prim.Native.Nat.{ℕ, zero, suc, ◌+◌, ◌-◌, ◌*◌, ◌≤◌, ◌<◌}
use mathlib.Core.Path.{◌≡◌, refl, sym, ap, ◌∙◌, subst}
use mathlib.Core.List.{List, [], ◌∷◌, ◌++◌, append_assoc}
use mathlib.Core.Bool.{Bool, true, false}
use native.Mathlib.Omega.{arith}
use native.Mathlib.Nat.{sub-zero}
use lib.Dec.{ltb}
use lib.ListN.{length, take, drop, length-append, length-drop, length-map}
use lib.Seq.{drop-drop, take_at}
use borrow.Author.Tests.{ltb-true, ltb-false}
use Rattle.octets.specs.Pick.{pick}
use Rattle.rules.specs.Channel.{Handed}
use Rattle.packet.specs.Packet.{read_packet}
use Rattle.stretch.specs.Stretch.{Stretch, found, unread}
use Rattle.source.specs.Found.{offers, one}
use Rattle.source.specs.Scan.{scanned, kept_by, tells, Finds}
use Rattle.source.specs.declared.Source.{Source}
use Rattle.source.specs.declared.Taken.{Taken}
use Rattle.source.specs.declared.Taken.TheVariants as taken
use Rattle.source.specs.declared.Scanned.{Scanned}
use Rattle.source.proofs.Scanning.{scans_find}
use Rattle.session.specs.declared.Session.{Session}
use Rattle.session.proofs.Few.{offer-few}
use Rattle.receiver.specs.Run.{roomy}
use Rattle.receiver.specs.declared.Receiver.{Receiver}
use Rattle.listing_lines.specs.Text.{longest_line, header, bad_recording}
use Rattle.listing_lines.proofs.Short.{lines_are_short}
use Rattle.listing.specs.Listing.{packets_text, made, outcome_text}
use Rattle.listing.specs.Promised.{room, to_come}
use Rattle.listing.specs.Next.{Next, receiver, here, behind, offering, by_section, sections, next_of, Nexts, Stops, Part, NextsAreParts}
use Rattle.listing.specs.declared.Listed.{Listed}
use Rattle.listing.specs.declared.Stop.{Stop}
use Rattle.listing.specs.declared.Stop.TheVariants.{Full}
use Rattle.listing.proofs.Parts.{Brings, known, brings_header, brings_nothing, brings_offer, brings_bad}

-- a frame's lines have room
packets-short : (ps : List Handed) → length (packets_text ps) ≤ longest_line * length ps
packets-short [] = omega arith
packets-short (p ∷ ps) =
    simp length-append (omega (
      arith,
      lines_are_short.packets p.first p.arrival (length p.packet)
          (read_packet p.packet),
      packets-short ps,
    ))

pub outcome-short : (s : Session) (x : Stretch) → length (outcome_text (made s x)) ≤ room
unfolding outcome_text
outcome-short s x =
    let o = made s x in
    let few = offer-few s x roomy in
    simp length-append
    (omega (
      arith,
      lines_are_short.answers o.session.arrival o.answer,
      packets-short o.packets,
      few.packets,
      length-map
          o.packets (λ (p : Handed). p.packet),
    ))

-- The same of a call that was not yet told as octets left.
record Parted (a : Receiver) (kept w : List ℕ) (left : ℕ) (n : Next) : Type 0 where
  text : (p : List ℕ) (ended : Bool) → to_come a kept (w ++ p) ended ≡ n.text ++ to_come n.receiver n.kept
      (drop n.used w ++ p) ended
  inside : n.used ≤ length w
  within : length n.text ≤ left
  stops : Stops n.receiver n.kept (drop n.used w) (left - length n.text) n.stop

-- a section, and then the rest
one_more : {a b : Source} {s z : Session} {kept kept' w : List ℕ} (text : List ℕ) {used left : ℕ} {n : Next}
    → Brings a s kept w text b z kept' used
    → used ≤ length w → length text ≤ left → Parted (receiver b z) kept' (drop used w) (left - length text) n
    → Parted (receiver a s) kept w left (behind used text n)
one_more {w = w} text {used} {left} {n} brings inside fits q =
    let d = length-drop used w in
    let e : left - length text - length n.text ≡ left - length (text ++ n.text) = simp length-append (omega arith) in
    record {
      text = λ p ended. brings p ended
          ∙ ap (λ (x : List ℕ). text ++ x) (q.text p ended)
          ∙ sym (append_assoc text n.text _)
          ∙ ap (λ (x : List ℕ). (text ++ n.text) ++ to_come n.receiver n.kept (x ++ p) ended) (drop-drop n.used used w);
      inside = omega (arith, q.inside);
      within = simp length-append (omega (arith, q.within));
      stops = subst (λ (k : ℕ). Stops n.receiver n.kept (drop (used + n.used) w) k n.stop) e
          (subst (λ (x : List ℕ). Stops n.receiver n.kept x (left - length text - length n.text) n.stop)
          (drop-drop n.used used w) q.stops);
    }

-- stops at once
at_once : {a : Receiver} {kept w : List ℕ} {left : ℕ} {why : Stop} → Stops a kept w left why → Parted a kept w left (here a kept why)
at_once {a} {kept} {w} {left} {why} h =
    record {
      text = λ p ended. refl;
      inside = omega arith;
      within = omega arith;
      stops = subst (λ (k : ℕ). Stops a kept w k why)
          (sym (sub-zero left)) h;
    }

-- where the source stays
stays : {a b : Source} {s : Session} {kept kept' w : List ℕ} {left : ℕ} {why : Stop} → b ≡ a → kept' ≡ kept → Stops
    (receiver a s) kept w left why
    → Parted (receiver a s) kept w left (here (receiver b s) kept' why)
stays {a} {b} {s} {kept} {kept'} {w} {left} {why} e d h =
    subst (λ (k : List ℕ). Parted (receiver a s) kept w left (here (receiver b s) k why)) (sym d)
    (subst (λ (x : Source). Parted (receiver a s) kept w left (here (receiver x s) kept why)) (sym e) (at_once h))

module _ (rest : Receiver → List ℕ → List ℕ → ℕ → Next) (s : Session) (kept w : List ℕ) (left : ℕ) (has : room ≤ left)
    (a : Source) {r : Scanned} {kept' : List ℕ}
    (f : Finds a kept w r kept') (go : (b : Receiver) (k v : List ℕ) (m : ℕ) → length v < length w → Parted b k v m (rest b k v m)) where
  shorter : 0 < r.used → length (drop r.used w) < length w
  shorter g = simp length-drop (omega (arith, f.inside))

  offers-more : {t : Taken} (x : Stretch) → r.taken ≡ t → tells t kept' w ≡ one (offers x) → 0 < r.used
      → Parted (receiver a s) kept w left (offering rest s kept' w left r.source r.used x)
  offers-more x e d u =
      one_more (outcome_text (made s x)) (brings_offer a s kept w f x e d) f.inside (omega (arith, outcome-short s x))
      (go _ _ _ _ (shorter u))

  by_taken : (t : Taken) → r.taken ≡ t → Parted (receiver a s) kept w left (by_section rest s kept' w left r.source r.used t)
  by_taken (taken.Missing n) e = stays (known a s kept w f e).0.0 (known a s kept w f e).0.1 (known a s kept w f e).1
  by_taken taken.Over e = stays (known a s kept w f e).0.0 (known a s kept w f e).0.1 (known a s kept w f e).1
  by_taken taken.Bad e =
      one_more bad_recording {used = 0} (brings_bad a s kept w f e) (omega arith) (omega arith) (at_once (known a s kept w f e).1)
  by_taken (taken.Opened t) e =
      one_more header (brings_header a s kept w f e) f.inside (omega arith) (go _ _ _ _ (shorter (known a s kept w f e).0))
  by_taken taken.Nothing e =
      one_more [] (brings_nothing a s kept w f e) f.inside (omega arith) (go _ _ _ _ (shorter (known a s kept w f e)))
  by_taken (taken.Here from to) e = offers-more (found (take (to - from) (drop from w))) e refl (known a s kept w f e).0
  by_taken (taken.Kept n) e = offers-more (found (take n kept')) e refl (known a s kept w f e).0
  by_taken (taken.Refused n) e = offers-more (unread n) e refl (known a s kept w f e)

by_room : (a : Receiver) (kept w : List ℕ) (left : ℕ) {n : Next} (b : Bool) → ltb left room ≡ b → (room ≤ left → Parted a kept w left n)
    → Parted a kept w left (pick b (here a kept Full) n)
unfolding pick
by_room a kept w left true e h = at_once (ltb-true _ _ e)
by_room a kept w left false e h = h (ltb-false _ _ e)

-- what is scanned is found
finds : (a : Source) (kept w : List ℕ) → Finds a kept w (scanned a kept w) (kept_by a kept w)
finds a kept w = scans_find.finds (record { answers = refl; keeps = refl })

parted : (k : ℕ) (a : Receiver) (kept w : List ℕ) (left : ℕ) → length w < k → Parted a kept w left (sections k a kept w left)
unfolding sections
parted zero a kept w left h = absurd (omega arith)
parted (suc k) a kept w left h =
    by_room a kept w left (ltb left room) refl
    (λ has. by_taken (sections k) a.session kept w left has a.source (finds a.source kept w)
    (λ b q v n less. parted k b q v n (omega arith)) (scanned a.source kept w).taken refl)

-- the text at the start of the output
pub part_of : {a : Receiver} {kept w out : List ℕ} {r : Listed} {kept' out' : List ℕ} → Nexts a kept w out r kept' out'
    → Part a kept w out r kept' out'
part_of {a} {kept} {w} {out} {r} {kept'} {out'} n =
    let x : Next = next_of a kept w (length out) in
    let q : Parted a kept w (length out) x = parted (suc (length w)) a kept w (length out) (omega arith) in
    let t : take (length x.text) out' ≡ x.text = ap (take (length x.text)) n.leaves ∙ take_at x.text
    (drop (length x.text) out) (length x.text) refl in
    subst (λ (k : List ℕ). Part a kept w out r k out') (sym n.keeps)
    (subst (λ (y : Listed). Part a kept w out y x.kept out') (sym n.answers)
    (record {
      text = λ p ended. q.text p ended ∙ ap (λ (y : List ℕ). y ++ to_come x.receiver x.kept (drop x.used w ++ p) ended) (sym t);
      inside = q.inside;
      within = q.within;
      stops = q.stops;
    }))

pub nexts_are_parts : NextsAreParts
nexts_are_parts = record { part = part_of }
