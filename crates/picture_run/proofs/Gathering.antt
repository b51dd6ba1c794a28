-- What a turn gathers, and what the whole comes to from there on.
use Rattle.std.specs.Prelude.{Ok, Err}
use Prim.Native.Nat.{ℕ, ◌+◌, ◌-◌, ◌≤◌}
use mathlib.Core.Path.{◌≡◌, refl, sym, ap, ◌∙◌, subst}
use mathlib.Core.List.{List, [], ◌∷◌, ◌++◌, map, append_assoc, append-nil}
use mathlib.Core.Bool.{Bool, false, true≢false}
use native.Mathlib.Omega.{arith}
use lib.Dec.{eqb}
use lib.ListN.{length, take, drop, length-append, length-map}
use lib.Seq.{take_at, drop_at}
use Rattle.octets.specs.Parts.{part, written}
use Rattle.octets.specs.Pick.{pick}
use Rattle.octets.proofs.Choices.{picks}
use Rattle.octets.proofs.Placing.{part-some}
use Rattle.stretch.specs.Stretch.{Stretch, found, unread}
use Rattle.rules.specs.Channel.{Handed}
use Rattle.rules.specs.Packets.{bare, joined}
use Rattle.rules.specs.Bounds.{Under}
use Rattle.source.specs.Found.{Item, opens, offers, Found, found_in, cut_at}
use Rattle.source.specs.Scan.{scanned, kept_by, tells, Finds}
use Rattle.source.specs.Scan.{Told as ToldBy}
use Rattle.source.proofs.Scanning.{scans_find}
use Rattle.source.specs.declared.Scanned.{Scanned}
use Rattle.source.specs.declared.Source.{Source}
use Rattle.source.specs.declared.Taken.{Taken}
use Rattle.source.specs.declared.Taken.TheVariants as taken
use Rattle.session.specs.Open.{opening}
use Rattle.session.specs.Lent.{Lent, Enough}
use Rattle.session.specs.Step.{Outcome}
use Rattle.session.specs.Statements.{offered}
use Rattle.session.specs.declared.Session.{Session}
use Rattle.session.specs.Answers.{StepAnswer}
use Rattle.session.proofs.Few.{Few, offer-few}
use Rattle.receiver.specs.Receive.{Tells, missing, bad, over, opened, nothing, answered, told_of, heard, Receives}
use Rattle.receiver.specs.Receive.{received as receipt}
use Rattle.receiver.specs.Run.{roomy, handed_in}
use Rattle.receiver.specs.declared.Receiver.{Receiver}
use Rattle.receiver.specs.declared.Received.{Received as Called}
use Rattle.receiver.specs.declared.Event.{Event}
use Rattle.receiver.specs.declared.Event.TheVariants as event
use Rattle.receiver.proofs.Enough.{same_outcome}
use Rattle.telling.specs.Counts.{counted}
use Rattle.feed.specs.Pull.{at_end, pulled}
use Rattle.feed.specs.declared.Pull.{Pull}
use Rattle.feed.specs.declared.Pull.TheVariants as pull
use Rattle.picture_frame.specs.Received.{Received, leaving, all_placed, packets_in}
use Rattle.picture_run.specs.Gathered.{Gathered, handed_placed, with_step, with_items, with_octets, with_tells, with_pull}
use Rattle.picture_run.specs.Gathered.{goes_on, PlacesHanded}

-- ---- the packets that stand in the lent octets are those that were handed out

-- packets that stand end to end behind other octets, cut by their lengths
in_front : (pre : List ℕ) (ps : List (List ℕ)) (rest : List ℕ) → packets_in (pre ++ (joined ps ++ rest)) (length pre) (map length ps) ≡ ps
in_front pre [] rest = refl
in_front pre (p ∷ ps) rest =
    let s : List ℕ = pre ++ ((p ++ joined ps) ++ rest) in
    let e : s ≡ (pre ++ p) ++ (joined ps ++ rest) = simp append_assoc in
    let l : length pre + length p ≡ length (pre ++ p) = sym (length-append pre p) in
    let fits : length pre + length p ≤ length s = omega (arith, ap length e, length-append (pre ++ p) (joined ps ++ rest)) in
    let front : part s (length pre) (length p) ≡ p =
    sym (part-some s (length pre) (length p) fits)
    ∙ ap (take (length p)) (drop_at pre ((p ++ joined ps) ++ rest) (length pre) refl ∙ append_assoc p (joined ps) rest)
    ∙ take_at p (joined ps ++ rest) (length p) refl in
    ap (λ (x : List ℕ). x ∷ packets_in s (length pre + length p) (map length ps)) front
    ∙ ap (λ (k : ℕ). p ∷ packets_in s k (map length ps)) l
    ∙ ap (λ (x : List ℕ). p ∷ packets_in x (length (pre ++ p)) (map length ps)) e
    ∙ ap (λ (x : List (List ℕ)). p ∷ x) (in_front (pre ++ p) ps rest)

-- as many as are told
laid-packets : (ps : List Handed) (octets lengths : List ℕ) (n : ℕ) → n ≡ length ps
    → packets_in (written (joined (bare ps)) octets) 0 (take n (written (map length (bare ps)) lengths)) ≡ bare ps
laid-packets ps octets lengths n e =
    ap (λ (x : List ℕ). packets_in (written (joined (bare ps)) octets) 0 x)
    (take_at (map length (bare ps)) (drop (length (map length (bare ps))) lengths) n (simp length-map (sym e)))
    ∙ in_front [] (bare ps) (drop (length (joined (bare ps))) octets)

-- under one arrival number
one-arrival : (wanted a : ℕ) (r : Received) (ps : List Handed) → Under a ps → all_placed a wanted r (bare ps) ≡ handed_placed wanted r ps
one-arrival wanted a r [] u = refl
one-arrival wanted a r (p ∷ ps) u =
    one-arrival wanted a (leaving p.packet a wanted r) ps u.1
    ∙ ap (λ (k : ℕ). handed_placed wanted (leaving p.packet k wanted r) ps) (sym u.0)

-- ---- by what a receiver tells

-- as many packets as a step tells, all under its arrival number
abbrev Few_told : Tells → List Handed → Type 0
Few_told (missing n) ps = Unit {0}
Few_told bad ps = Unit {0}
Few_told over ps = Unit {0}
Few_told opened ps = Unit {0}
Few_told nothing ps = Unit {0}
Few_told (answered t) ps = (t.fields.packets ≡ length ps) × Under t.fields.arrival ps

few_of : (o : Outcome) → Few o → Few_told (answered o.answer) o.packets
few_of o f = (f.count, f.under)

heard-few : (z : Session) (kept w : List ℕ) (l : Lent) (t : Taken) → Few_told (heard z kept w l t).tells (heard z kept w l t).packets
heard-few z kept w l (taken.Missing n) = tt
heard-few z kept w l taken.Bad = tt
heard-few z kept w l taken.Over = tt
heard-few z kept w l (taken.Opened t) = tt
heard-few z kept w l taken.Nothing = tt
heard-few z kept w l (taken.Here from to) = few_of _ (offer-few z (found (take (to - from) (drop from w))) l)
heard-few z kept w l (taken.Kept n) = few_of _ (offer-few z (found (take n kept)) l)
heard-few z kept w l (taken.Refused n) = few_of _ (offer-few z (unread n) l)

no_packets : (ps : List Handed) → 0 ≡ length ps → [] ≡ ps
no_packets [] h = refl
no_packets (p ∷ ps) h = absurd (omega arith)

module _ (wanted : ℕ) (ps : List Handed) (octets lengths : List ℕ) (g : Gathered) where
  abbrev octets' : List ℕ
  octets' = written (joined (bare ps)) octets

  abbrev lengths' : List ℕ
  lengths' = written (map length (bare ps)) lengths

  answer-told : (a : StepAnswer) → Few_told (told_of (event.Answered a)) ps
      → with_pull wanted (pull.Answered a) octets' lengths' g ≡ with_tells wanted (told_of (event.Answered a)) ps g
  unfolding pick
  answer-told (Ok a) f =
      ap (λ (x : List (List ℕ)). record { received = all_placed a.arrival wanted g.received x; frames = g.frames })
      (laid-packets ps octets lengths a.packets f.0)
      ∙ ap (λ (x : Received). record { received = x; frames = g.frames }) (one-arrival wanted a.arrival g.received ps f.1)
  answer-told (Err r) f =
      ap (λ (x : List Handed). record { received = handed_placed wanted g.received x; frames = counted g.frames r.number })
      (no_packets ps f.0)

  pull_told : (e : Event) (s : Source) (failed : Bool) (n : ℕ) → Few_told (told_of e) ps → with_pull wanted
      (pulled e s failed n) octets' lengths' g ≡ with_tells wanted (told_of e) ps g
  unfolding at_end
  pull_told (event.Missing m) s failed n f =
      let P : Pull → Type 0 = λ x. with_pull wanted x octets' lengths' g ≡ g in
      picks P failed _ _ (λ h. refl) (λ h. picks P (eqb n 0) _ _ (λ k. picks P (cut_at s) _ _ (λ c. refl) (λ c. refl)) (λ k. refl))
  pull_told event.Bad s failed n f = refl
  pull_told event.Over s failed n f = refl
  pull_told event.Opened s failed n f = refl
  pull_told event.Nothing s failed n f = refl
  pull_told (event.Answered a) s failed n f = answer-told a f

-- ---- the whole from there on

-- what a stretch comes to, and then the rest
one_more : (wanted : ℕ) (z : Session) (l : Lent) → Enough l → (x : Stretch) (rest : List Item) (g : Gathered)
    → with_items wanted z (offers x ∷ rest) g ≡ with_items wanted (offered z x l).session rest
    (with_step wanted (offered z x l).answer (offered z x l).packets g)
one_more wanted z l e x rest g =
    ap (λ (o : Outcome). with_items wanted o.session rest (with_step wanted o.answer o.packets g)) (sym (same_outcome z x l e))

-- what a scan told, and then the rest
by_taken : (wanted : ℕ) (z : Session) (kept w : List ℕ) (l : Lent) → Enough l → (t : Taken) (rest : List Item) (g : Gathered)
    → with_items wanted z ((tells t kept w).items ++ rest) g
    ≡ with_items wanted (heard z kept w l t).session rest (with_tells wanted (heard z kept w l t).tells (heard z kept w l t).packets g)
by_taken wanted z kept w l e (taken.Missing n) rest g = refl
by_taken wanted z kept w l e taken.Bad rest g = refl
by_taken wanted z kept w l e taken.Over rest g = refl
by_taken wanted z kept w l e (taken.Opened t) rest g = refl
by_taken wanted z kept w l e taken.Nothing rest g = refl
by_taken wanted z kept w l e (taken.Here from to) rest g = one_more wanted z l e (found (take (to - from) (drop from w))) rest g
by_taken wanted z kept w l e (taken.Kept n) rest g = one_more wanted z l e (found (take n kept)) rest g
by_taken wanted z kept w l e (taken.Refused n) rest g = one_more wanted z l e (unread n) rest g

finds : (s : Source) (kept w : List ℕ) → Finds s kept w (scanned s kept w) (kept_by s kept w)
finds s kept w = scans_find.finds (record { answers = refl; keeps = refl })

-- nothing more is found where octets are missing or the recording is bad
abbrev None_left : List Item → Tells → Type 0
None_left xs (missing n) = xs ≡ []
None_left xs bad = xs ≡ []
None_left xs over = xs ≡ []
None_left xs opened = Unit {0}
None_left xs nothing = Unit {0}
None_left xs (answered t) = Unit {0}

heard-none : (z : Session) (s : Source) (kept w : List ℕ) (l : Lent) (r : Scanned) (kept' : List ℕ) (t : Taken) → ToldBy s kept w r kept' t
    → (found_in s kept w).items ≡ (tells t kept' w).items ++ (found_in r.source kept' (drop r.used w ++ [])).items
    → None_left (found_in s kept w).items (heard z kept' w l t).tells
heard-none z s kept w l r kept' (taken.Missing n) k e = ap (λ (f : Found). f.items) k.1.none
heard-none z s kept w l r kept' taken.Bad k e = e ∙ ap (λ (f : Found). f.items) (k.1 (drop r.used w ++ []))
heard-none z s kept w l r kept' taken.Over k e = ap (λ (f : Found). f.items) (k.1 w)
heard-none z s kept w l r kept' (taken.Opened t) k e = tt
heard-none z s kept w l r kept' taken.Nothing k e = tt
heard-none z s kept w l r kept' (taken.Here from to) k e = tt
heard-none z s kept w l r kept' (taken.Kept n) k e = tt
heard-none z s kept w l r kept' (taken.Refused n) k e = tt

-- a run that ends
ended : (wanted : ℕ) (z : Session) (xs : List Item) (ps : List Handed) (g : Gathered) (e : Event) (s : Source) (failed : Bool) (n : ℕ)
    → goes_on (pulled e s failed n) ≡ false
    → None_left xs (told_of e) → with_tells wanted (told_of e) ps g ≡ with_items wanted z xs g
ended wanted z xs ps g (event.Missing m) s failed n h k = ap (λ (x : List Item). with_items wanted z x g) (sym k)
ended wanted z xs ps g event.Bad s failed n h k = ap (λ (x : List Item). with_items wanted z x g) (sym k)
ended wanted z xs ps g event.Over s failed n h k = ap (λ (x : List Item). with_items wanted z x g) (sym k)
ended wanted z xs ps g event.Opened s failed n h k = absurd (true≢false h)
ended wanted z xs ps g event.Nothing s failed n h k = absurd (true≢false h)
ended wanted z xs ps g (event.Answered a) s failed n h k = absurd (true≢false h)

-- a call of a receiver
module _ (wanted : ℕ) (a : Receiver) (kept w : List ℕ) {l : Lent} {q : Called} {kept' : List ℕ} {l' : Lent} (enough : Enough l)
    (c : Receives a kept w l q kept' l') (g : Gathered) where
  abbrev pub next : Gathered
  next = with_tells wanted (receipt a kept w l).tells (receipt a kept w l).packets g

  pub from-there : (p : List ℕ) → with_octets wanted a kept (w ++ p) g ≡ with_octets wanted q.receiver kept' (drop q.used w ++ p) next
  unfolding receipt
  from-there p =
      ap (λ (f : Found). with_items wanted a.session f.items g) ((finds a.source kept w).next p)
      ∙ by_taken wanted a.session (kept_by a.source kept w) w l enough (scanned a.source kept w).taken _ g
      ∙ sym
      (ap (λ (k : List ℕ). with_octets wanted q.receiver k (drop q.used w ++ p) next) c.keeps
      ∙ ap (λ (n : ℕ). with_octets wanted q.receiver (receipt a kept w l).kept (drop n w ++ p) next) c.used
      ∙ ap (λ (b : Receiver). with_octets wanted b (receipt a kept w l).kept (drop (receipt a kept w l).used w ++ p) next) c.receiver)

  few : Few_told (told_of q.event) (receipt a kept w l).packets
  unfolding receipt
  few =
      subst (λ (t : Tells). Few_told t (receipt a kept w l).packets) (sym c.tells)
      (heard-few a.session (kept_by a.source kept w) w l (scanned a.source kept w).taken)

  none : None_left (found_in a.source kept w).items (told_of q.event)
  unfolding receipt
  none =
      let f = finds a.source kept w in
      subst (None_left (found_in a.source kept w).items) (sym c.tells)
      (heard-none a.session a.source kept w l (scanned a.source kept w) (kept_by a.source kept w)
      (scanned a.source kept w).taken f.told
      (ap (λ (x : List ℕ). (found_in a.source kept x).items) (sym (append-nil w)) ∙ ap (λ (x : Found). x.items) (f.next [])))

  -- what was pulled is what was told
  pub gathers : {x : Pull} (failed : Bool) (n : ℕ) → x ≡ pulled q.event a.source failed n → with_pull wanted x l'.octets
      l'.lengths g ≡ next
  gathers failed n e =
      let ps : List Handed = (receipt a kept w l).packets in
      ap (λ (y : Pull). with_pull wanted y l'.octets l'.lengths g) e
      ∙ ap (λ (m : Lent). with_pull wanted (pulled q.event a.source failed n) m.octets m.lengths g) c.leaves
      ∙ pull_told wanted ps l.octets l.lengths g q.event a.source failed n few
      ∙ ap (λ (t : Tells). with_tells wanted t ps g) c.tells

  pub ends : {x : Pull} (failed : Bool) (n : ℕ) → x ≡ pulled q.event a.source failed n → goes_on x ≡ false
      → next ≡ with_octets wanted a kept w g
  ends failed n e h =
      ap (λ (t : Tells). with_tells wanted t (receipt a kept w l).packets g) (sym c.tells)
      ∙ ended wanted a.session (found_in a.source kept w).items (receipt a kept w l).packets g q.event a.source failed n
      (ap goes_on (sym e) ∙ h) none

-- ---- what is placed is what is handed out

placed-both : (wanted : ℕ) (r : Received) (ps qs : List Handed) → handed_placed wanted (handed_placed wanted r ps) qs ≡ handed_placed wanted r
    (ps ++ qs)
placed-both wanted r [] qs = refl
placed-both wanted r (p ∷ ps) qs = placed-both wanted (leaving p.packet p.arrival wanted r) ps qs

pub places-handed : PlacesHanded
places-handed wanted s [] g = refl
places-handed wanted s (opens t ∷ xs) g = places-handed wanted (opening t 0).session xs g
places-handed wanted s (offers x ∷ xs) g =
    let o : Outcome = offered s x roomy in
    places-handed wanted o.session xs (with_step wanted o.answer o.packets g) ∙ placed-both wanted g.received o.packets
    (handed_in o.session xs)
