-- A call of the receiver and then the rest, and a whole run: what they add is what the octets make.
use Prim.Native.Nat.{ℕ, ◌+◌, ◌-◌, ◌≤◌, ◌<◌, ◌^◌}
use native.Mathlib.Omega.{arith}
use native.Mathlib.Nat.{mod-lt}
use mathlib.Core.Path.{◌≡◌, refl, sym, ap, subst, ◌∙◌}
use mathlib.Core.List.{List, [], ◌∷◌, ◌++◌, map, append-nil, append_assoc}
use lib.ListN.{length, take, drop, length-append, length-drop}
use Rattle.octets.specs.Parts.{written}
use Rattle.stretch.specs.Stretch.{Stretch, found, unread}
use Rattle.rules.specs.Channel.{Handed}
use Rattle.rules.specs.Packets.{bare, joined, firsts}
use Rattle.source.specs.Found.{Item, offers, Found, found_in}
use Rattle.source.specs.Scan.{scanned, kept_by, tells, Waits, Finds}
use Rattle.source.proofs.Scanning.{scans_find}
use Rattle.source.specs.declared.Source.{Source}
use Rattle.source.specs.declared.Taken.{Taken}
use Rattle.source.specs.declared.Taken.TheVariants as taken
use Rattle.session.specs.Lent.{Lent, Enough, laid}
use Rattle.session.specs.Step.{Outcome}
use Rattle.session.specs.Statements.{offered}
use Rattle.session.specs.declared.Session.{Session}
use Rattle.receiver.specs.Receive.{Tells, answered, told_of, heard, received, Receives}
use Rattle.receiver.specs.declared.Receiver.{Receiver}
use Rattle.receiver.specs.declared.Received.{Received}
use Rattle.receiver.proofs.Enough.{same_outcome}
use Rattle.readings_lines.specs.Lines.{Added, adding}
use Rattle.readings_frame.specs.Readings.{Layouts, numbered}
use Rattle.readings_turn.specs.Turns.{event_adds, event_hands, Run, starts, reads, takes}
use Rattle.about_readings.specs.Listed.{behind, step_adds, items_add, to_add, RunsAreListed}
use Rattle.about_readings.proofs.Listed.{Few_told, heard-few, tells_add, tells_next, event_adds_lem, event_next}

-- ---- a call, and then the rest

after : (l : Layouts) (packets : ℕ) (counts : List ℕ) (rest : List Item) → Tells → List Handed → Session → Added
after l packets counts rest t ps z = behind (tells_add l t ps packets counts).text
    (items_add l z (tells_next t ps packets) (tells_add l t ps packets counts).counts rest)

one_more : (l : Layouts) (packets : ℕ) (counts : List ℕ) (z : Session) (t : Lent) → Enough t → (x : Stretch) (rest : List Item)
    → items_add l z packets counts (offers x ∷ rest) ≡ after l packets counts rest (answered (offered z x t).answer)
    (offered z x t).packets (offered z x t).session
unfolding after
one_more l packets counts z t e x rest =
    ap (λ (o : Outcome). behind (step_adds l o.answer o.packets packets counts).text
    (items_add l o.session (numbered packets (length o.packets)) (step_adds l o.answer o.packets packets counts).counts rest))
    (sym (same_outcome z x t e))

by_taken : (l : Layouts) (packets : ℕ) (counts : List ℕ) (z : Session) (kept w : List ℕ) (t : Lent) → Enough t
    → (k : Taken) (rest : List Item)
    → items_add l z packets counts ((tells k kept w).items ++ rest) ≡ after l packets counts rest (heard z kept w t k).tells
    (heard z kept w t k).packets (heard z kept w t k).session
unfolding after
by_taken l packets counts z kept w t e (taken.Missing n) rest = refl
by_taken l packets counts z kept w t e taken.Bad rest = refl
by_taken l packets counts z kept w t e taken.Over rest = refl
by_taken l packets counts z kept w t e (taken.Opened n) rest = refl
by_taken l packets counts z kept w t e taken.Nothing rest = refl
by_taken l packets counts z kept w t e (taken.Here from to) rest = one_more l packets counts z t e
    (found (take (to - from) (drop from w))) rest
by_taken l packets counts z kept w t e (taken.Kept n) rest = one_more l packets counts z t e (found (take n kept)) rest
by_taken l packets counts z kept w t e (taken.Refused n) rest = one_more l packets counts z t e (unread n) rest

finds : (s : Source) (kept w : List ℕ) → Finds s kept w (scanned s kept w) (kept_by s kept w)
finds s kept w = scans_find.finds (record { answers = refl; keeps = refl })

module _ (l : Layouts) (a : Receiver) (kept w : List ℕ) {t t' : Lent} {r : Received} {kept' : List ℕ}
    (c : Receives a kept w t r kept' t') (enough : Enough t) (packets : ℕ) (small : packets < 2 ^ 64)
    (counts : List ℕ) where
  abbrev ps : List Handed
  ps = (received a kept w t).packets

  few : Few_told (told_of r.event) ps
  unfolding received
  few = subst (λ (x : Tells). Few_told x ps) (sym c.tells)
      (heard-few a.session (kept_by a.source kept w) w t (scanned a.source kept w).taken)

  same-adds : event_adds l r.event t' packets counts ≡ tells_add l (received a kept w t).tells ps packets counts
  same-adds =
      ap (λ (x : Lent). event_adds l r.event x packets counts) c.leaves
      ∙ event_adds_lem l ps t packets counts r.event few
      ∙ ap (λ (x : Tells). tells_add l x ps packets counts) c.tells

  same_next : numbered packets (event_hands r.event) ≡ tells_next (received a kept w t).tells ps packets
  same_next = event_next ps packets small r.event few ∙ ap (λ (x : Tells). tells_next x ps packets) c.tells

  part_of : (p : List ℕ) → to_add l a kept (w ++ p) packets counts ≡ after l packets counts
      (found_in r.receiver.source kept' (drop r.used w ++ p)).items
      (received a kept w t).tells ps r.receiver.session
  unfolding received
  part_of p =
      ap (λ (f : Found). items_add l a.session packets counts f.items) ((finds a.source kept w).next p)
      ∙ by_taken l packets counts a.session (kept_by a.source kept w) w t enough (scanned a.source kept w).taken _
      ∙ sym
      (ap (λ (k : List ℕ). after l packets counts (found_in r.receiver.source k (drop r.used w ++ p)).items
      (received a kept w t).tells ps r.receiver.session) c.keeps
      ∙ ap (λ (n : ℕ). after l packets counts (found_in r.receiver.source (received a kept w t).kept (drop n w ++ p)).items
      (received a kept w t).tells ps r.receiver.session) c.used
      ∙ ap (λ (b : Receiver). after l packets counts
      (found_in b.source (received a kept w t).kept (drop (received a kept w t).used w ++ p)).items
      (received a kept w t).tells ps b.session) c.receiver)

  next-part : (p : List ℕ) → to_add l a kept (w ++ p) packets counts
      ≡ behind (event_adds l r.event t' packets counts).text
      (to_add l r.receiver kept' (drop r.used w ++ p) (numbered packets (event_hands r.event))
      (event_adds l r.event t' packets counts).counts)
  unfolding after
  next-part p =
      part_of p
      ∙ ap (λ (x : Added). behind x.text
      (to_add l r.receiver kept' (drop r.used w ++ p) (tells_next (received a kept w t).tells ps packets) x.counts))
      (sym same-adds)
      ∙ ap (λ (n : ℕ). behind (event_adds l r.event t' packets counts).text
      (to_add l r.receiver kept' (drop r.used w ++ p) n (event_adds l r.event t' packets counts).counts)) (sym same_next)

-- ---- a run

longer : (s l : List ℕ) → length l ≤ length (written s l)
longer s l = omega (arith, length-append s (drop (length s) l), length-drop (length s) l)

still_enough : (ps : List Handed) (l : Lent) → Enough l → Enough (laid ps l)
still_enough ps l e = record {
  octets = omega (arith, e.octets, longer (joined (bare ps)) l.octets);
  lengths = omega (arith, e.lengths, longer (map length (bare ps)) l.lengths);
  firsts = omega (arith, e.firsts, longer (firsts ps) l.firsts);
}

module _ {l : Layouts} {a₀ : Receiver} {kept₀ counts₀ : List ℕ} {packets₀ : ℕ} {t₀ : Lent} (enough : Enough t₀)
    (small : packets₀ < 2 ^ 64) where
  room : {octets text counts : List ℕ} {packets : ℕ} {a : Receiver} {kept w : List ℕ} {t : Lent}
      → Run l a₀ kept₀ counts₀ packets₀ t₀ octets text counts packets a kept w t → Enough t
  room starts = enough
  room (reads piece run) = room run
  room (takes {a = a} {kept} {w} {t} r kept' t' g run) = subst Enough (sym g.leaves)
      (still_enough (received a kept w t).packets t (room run))

  few-numbers : {octets text counts : List ℕ} {packets : ℕ} {a : Receiver} {kept w : List ℕ} {t : Lent}
      → Run l a₀ kept₀ counts₀ packets₀ t₀ octets text counts packets a kept w t → packets < 2 ^ 64
  few-numbers starts = small
  few-numbers (reads piece run) = few-numbers run
  few-numbers (takes {packets = packets} r kept' t' g run) = mod-lt (packets + event_hands r.event) (omega arith)

  first : {octets text counts : List ℕ} {packets : ℕ} {a : Receiver} {kept w : List ℕ} {t : Lent}
      → Run l a₀ kept₀ counts₀ packets₀ t₀ octets text counts packets a kept w t
      → (p : List ℕ) → to_add l a₀ kept₀ (octets ++ p) packets₀ counts₀ ≡ behind text (to_add l a kept (w ++ p) packets counts)
  first starts p = refl
  first (reads {octets = octets} {text} {counts} {packets} {a} {kept} {w} piece run) p =
      ap (λ (x : List ℕ). to_add l a₀ kept₀ x packets₀ counts₀) (append_assoc octets piece p)
      ∙ first run (piece ++ p)
      ∙ ap (λ (x : List ℕ). behind text (to_add l a kept x packets counts)) (sym (append_assoc w piece p))
  first (takes {text = text} {counts} {packets} {a} {kept} {w} {t} r kept' t' g run) p =
      let said : List ℕ = (event_adds l r.event t' packets counts).text in
      let rest : Added = to_add l r.receiver kept' (drop r.used w ++ p) (numbered packets (event_hands r.event))
      (event_adds l r.event t' packets counts).counts in
      first run p
      ∙ ap (behind text) (next-part l a kept w g (room run) packets (few-numbers run) counts p)
      ∙ ap (λ (x : List ℕ). adding x rest.counts) (sym (append_assoc text said rest.text))

  prompt : {octets text counts : List ℕ} {packets : ℕ} {a : Receiver} {kept w : List ℕ} {t : Lent}
      → Run l a₀ kept₀ counts₀ packets₀ t₀ octets text counts packets a kept w t
      → (n : ℕ) → Waits a.source kept w n → adding text counts ≡ to_add l a₀ kept₀ octets packets₀ counts₀
  prompt {octets} {text} {counts} {packets} {a} {kept} {w} run n h =
      sym
      (ap (λ (x : List ℕ). to_add l a₀ kept₀ x packets₀ counts₀) (sym (append-nil octets))
      ∙ first run []
      ∙ ap (λ (x : List ℕ). behind text (to_add l a kept x packets counts)) (append-nil w)
      ∙ ap (λ (f : Found). behind text (items_add l a.session packets counts f.items)) h.none
      ∙ ap (λ (x : List ℕ). adding x counts) (append-nil text))

pub runs_are_listed : RunsAreListed
runs_are_listed = record { first = λ run e s. first e s run; prompt = λ run e s. prompt e s run }
