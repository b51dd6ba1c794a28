-- What a turn counts, and what the whole comes to from there on.
use Rattle.std.specs.Prelude.{Ok, Err}
use Prim.Native.Nat.{ℕ, ◌-◌}
use mathlib.Core.Path.{◌≡◌, refl, sym, ap, ◌∙◌, subst}
use mathlib.Core.List.{List, [], ◌∷◌, ◌++◌, map, append_assoc, append-nil}
use mathlib.Core.Bool.{Bool, true, false, true≢false}
use native.Mathlib.Omega.{arith}
use types.Run.{OneOf, miss}
use denote.Enum.Declared.{tag_of}
use lib.Dec.{eqb}
use lib.ListN.{length, take, drop, length-map}
use lib.Seq.{take_at, drop_at}
use Rattle.octets.specs.Parts.{written}
use Rattle.octets.specs.Pick.{pick}
use Rattle.octets.proofs.Choices.{picks}
use Rattle.stretch.specs.Stretch.{Stretch, found, unread}
use Rattle.rules.specs.Channel.{Handed}
use Rattle.rules.specs.Packets.{bare, joined, cut}
use Rattle.source.specs.Found.{Item, offers, Found, found_in, cut_at}
use Rattle.source.specs.Scan.{scanned, kept_by, tells, Finds}
use Rattle.source.specs.Scan.{Told as ToldBy}
use Rattle.source.proofs.Scanning.{scans_find}
use Rattle.source.specs.declared.Scanned.{Scanned}
use Rattle.source.specs.declared.Source.{Source}
use Rattle.source.specs.declared.Taken.{Taken}
use Rattle.source.specs.declared.Taken.TheVariants as taken
use Rattle.session.specs.Lent.{Lent, Enough}
use Rattle.session.specs.Step.{Outcome}
use Rattle.session.specs.Statements.{offered}
use Rattle.session.specs.declared.Session.{Session}
use Rattle.session.specs.Answers.{StepAnswer}
use Rattle.session.proofs.Few.{Few, offer-few}
use Rattle.receiver.specs.Receive.{Tells, missing, bad, over, opened, nothing, answered, told_of, heard, Receives}
use Rattle.receiver.specs.Receive.{received as receipt}
use Rattle.receiver.specs.declared.Receiver.{Receiver}
use Rattle.receiver.specs.declared.Received.{Received as Called}
use Rattle.receiver.specs.declared.Event.{Event}
use Rattle.receiver.specs.declared.Event.TheVariants as event
use Rattle.receiver.proofs.Enough.{same_outcome}
use Rattle.feed.specs.Pull.{at_end, pulled}
use Rattle.feed.specs.declared.Pull.{Pull}
use Rattle.feed.specs.declared.Pull.TheVariants as pull
use Rattle.feed.specs.contracts.Pull.{the_type}
use Rattle.summary_count.specs.Count.{Ledger, all_counted, accepted_counted, refused_counted, answer_counted}
use Rattle.summary_run.specs.Counted.{with_step, with_items, with_octets, with_tells, with_pull, goes_on, found_bad, Heeds}

-- ---- the packets that stand in the lent octets are those that were handed out

cut-joined : (ps : List (List ℕ)) (rest : List ℕ) → cut (joined ps ++ rest) (map length ps) ≡ ps
cut-joined [] rest = refl
cut-joined (p ∷ ps) rest =
    let s : List ℕ = (p ++ joined ps) ++ rest in
    let e : s ≡ p ++ (joined ps ++ rest) = append_assoc p (joined ps) rest in
    ap (λ (x : List ℕ). take (length p) x ∷ cut (drop (length p) x) (map length ps)) e
    ∙ ap (λ (x : List ℕ). x ∷ cut (drop (length p) (p ++ (joined ps ++ rest))) (map length ps))
    (take_at p (joined ps ++ rest) (length p) refl)
    ∙ ap (λ (x : List ℕ). p ∷ cut x (map length ps)) (drop_at p (joined ps ++ rest) (length p) refl)
    ∙ ap (λ (x : List (List ℕ)). p ∷ x) (cut-joined ps rest)

-- as many as are told
laid-packets : (ps : List Handed) (octets lengths : List ℕ) (n : ℕ) → n ≡ length ps
    → cut (written (joined (bare ps)) octets) (take n (written (map length (bare ps)) lengths)) ≡ bare ps
laid-packets ps octets lengths n e =
    ap (λ (x : List ℕ). cut (written (joined (bare ps)) octets) x)
    (take_at (map length (bare ps)) (drop (length (map length (bare ps))) lengths) n (simp length-map (sym e)))
    ∙ cut-joined (bare ps) (drop (length (joined (bare ps))) octets)

-- ---- by what a receiver tells

-- as many packets as a step tells
abbrev Few_told : Tells → List Handed → Type 0
Few_told (missing n) ps = Unit {0}
Few_told bad ps = Unit {0}
Few_told over ps = Unit {0}
Few_told opened ps = Unit {0}
Few_told nothing ps = Unit {0}
Few_told (answered t) ps = t.fields.packets ≡ length ps

few_of : (o : Outcome) → Few o → Few_told (answered o.answer) o.packets
few_of o f = f.count

heard-few : (z : Session) (kept w : List ℕ) (l : Lent) (t : Taken) → Few_told (heard z kept w l t).tells (heard z kept w l t).packets
heard-few z kept w l (taken.Missing n) = tt
heard-few z kept w l taken.Bad = tt
heard-few z kept w l taken.Over = tt
heard-few z kept w l (taken.Opened t) = tt
heard-few z kept w l taken.Nothing = tt
heard-few z kept w l (taken.Here from to) = few_of _ (offer-few z (found (take (to - from) (drop from w))) l)
heard-few z kept w l (taken.Kept n) = few_of _ (offer-few z (found (take n kept)) l)
heard-few z kept w l (taken.Refused n) = few_of _ (offer-few z (unread n) l)

no_packets : (ps : List Handed) → 0 ≡ length ps → [] ≡ ps
no_packets [] h = refl
no_packets (p ∷ ps) h = absurd (omega arith)

module _ (ps : List Handed) (octets lengths : List ℕ) (g : Ledger) where
  abbrev octets' : List ℕ
  octets' = written (joined (bare ps)) octets

  abbrev lengths' : List ℕ
  lengths' = written (map length (bare ps)) lengths

  answer-told : (a : StepAnswer) → Few_told (told_of (event.Answered a)) ps
      → answer_counted a octets' lengths' g ≡ with_tells (told_of (event.Answered a)) ps g
  unfolding pick
  answer-told (Ok a) f =
      ap (λ (x : List (List ℕ)). all_counted x (accepted_counted a g)) (laid-packets ps octets lengths a.packets f)
  answer-told (Err r) f =
      ap (λ (x : List Handed). all_counted (bare x) (refused_counted r.number g)) (no_packets ps f)

  pull_told : (e : Event) (s : Source) (failed : Bool) (n : ℕ) → Few_told (told_of e) ps
      → with_pull (pulled e s failed n) octets' lengths' g ≡ with_tells (told_of e) ps g
  unfolding at_end
  pull_told (event.Missing m) s failed n f =
      let P : Pull → Type 0 = λ x. with_pull x octets' lengths' g ≡ g in
      picks P failed _ _ (λ h. refl) (λ h. picks P (eqb n 0) _ _ (λ k. picks P (cut_at s) _ _ (λ c. refl) (λ c. refl)) (λ k. refl))
  pull_told event.Bad s failed n f = refl
  pull_told event.Over s failed n f = refl
  pull_told event.Opened s failed n f = refl
  pull_told event.Nothing s failed n f = refl
  pull_told (event.Answered a) s failed n f = answer-told a f

-- ---- the whole from there on

-- what a stretch comes to, and then the rest
one_more : (z : Session) (l : Lent) → Enough l → (x : Stretch) (rest : List Item) (g : Ledger)
    → with_items z (offers x ∷ rest) g
    ≡ with_items (offered z x l).session rest (with_step (offered z x l).answer (offered z x l).packets g)
one_more z l e x rest g =
    ap (λ (o : Outcome). with_items o.session rest (with_step o.answer o.packets g)) (sym (same_outcome z x l e))

-- what a scan told, and then the rest
by_taken : (z : Session) (kept w : List ℕ) (l : Lent) → Enough l → (t : Taken) (rest : List Item) (g : Ledger)
    → with_items z ((tells t kept w).items ++ rest) g
    ≡ with_items (heard z kept w l t).session rest (with_tells (heard z kept w l t).tells (heard z kept w l t).packets g)
by_taken z kept w l e (taken.Missing n) rest g = refl
by_taken z kept w l e taken.Bad rest g = refl
by_taken z kept w l e taken.Over rest g = refl
by_taken z kept w l e (taken.Opened t) rest g = refl
by_taken z kept w l e taken.Nothing rest g = refl
by_taken z kept w l e (taken.Here from to) rest g = one_more z l e (found (take (to - from) (drop from w))) rest g
by_taken z kept w l e (taken.Kept n) rest g = one_more z l e (found (take n kept)) rest g
by_taken z kept w l e (taken.Refused n) rest g = one_more z l e (unread n) rest g

pub finds : (s : Source) (kept w : List ℕ) → Finds s kept w (scanned s kept w) (kept_by s kept w)
finds s kept w = scans_find.finds (record { answers = refl; keeps = refl })

-- nothing more is found where octets are missing or the recording is bad
abbrev None_left : List Item → Tells → Type 0
None_left xs (missing n) = xs ≡ []
None_left xs bad = xs ≡ []
None_left xs over = xs ≡ []
None_left xs opened = Unit {0}
None_left xs nothing = Unit {0}
None_left xs (answered t) = Unit {0}

heard-none : (z : Session) (s : Source) (kept w : List ℕ) (l : Lent) (r : Scanned) (kept' : List ℕ) (t : Taken)
    → ToldBy s kept w r kept' t
    → (found_in s kept w).items ≡ (tells t kept' w).items ++ (found_in r.source kept' (drop r.used w ++ [])).items
    → None_left (found_in s kept w).items (heard z kept' w l t).tells
heard-none z s kept w l r kept' (taken.Missing n) k e = ap (λ (f : Found). f.items) k.1.none
heard-none z s kept w l r kept' taken.Bad k e = e ∙ ap (λ (f : Found). f.items) (k.1 (drop r.used w ++ []))
heard-none z s kept w l r kept' taken.Over k e = ap (λ (f : Found). f.items) (k.1 w)
heard-none z s kept w l r kept' (taken.Opened t) k e = tt
heard-none z s kept w l r kept' taken.Nothing k e = tt
heard-none z s kept w l r kept' (taken.Here from to) k e = tt
heard-none z s kept w l r kept' (taken.Kept n) k e = tt
heard-none z s kept w l r kept' (taken.Refused n) k e = tt

-- a run that ends
ended : (z : Session) (xs : List Item) (ps : List Handed) (g : Ledger) (e : Event) (s : Source) (failed : Bool)
    (n : ℕ) → goes_on (pulled e s failed n) ≡ false → None_left xs (told_of e) → with_tells (told_of e) ps g ≡ with_items z xs g
ended z xs ps g (event.Missing m) s failed n h k = ap (λ (x : List Item). with_items z x g) (sym k)
ended z xs ps g event.Bad s failed n h k = ap (λ (x : List Item). with_items z x g) (sym k)
ended z xs ps g event.Over s failed n h k = ap (λ (x : List Item). with_items z x g) (sym k)
ended z xs ps g event.Opened s failed n h k = absurd (true≢false h)
ended z xs ps g event.Nothing s failed n h k = absurd (true≢false h)
ended z xs ps g (event.Answered a) s failed n h k = absurd (true≢false h)

-- a call of a receiver
module _ (a : Receiver) (kept w : List ℕ) {l : Lent} {q : Called} {kept' : List ℕ} {l' : Lent} (enough : Enough l)
    (c : Receives a kept w l q kept' l') (g : Ledger) where
  abbrev pub next : Ledger
  next = with_tells (receipt a kept w l).tells (receipt a kept w l).packets g

  pub from-there : (p : List ℕ) → with_octets a kept (w ++ p) g ≡ with_octets q.receiver kept' (drop q.used w ++ p) next
  unfolding receipt
  from-there p =
      ap (λ (f : Found). with_items a.session f.items g) ((finds a.source kept w).next p)
      ∙ by_taken a.session (kept_by a.source kept w) w l enough (scanned a.source kept w).taken _ g
      ∙ sym
      (ap (λ (k : List ℕ). with_octets q.receiver k (drop q.used w ++ p) next) c.keeps
      ∙ ap (λ (n : ℕ). with_octets q.receiver (receipt a kept w l).kept (drop n w ++ p) next) c.used
      ∙ ap (λ (b : Receiver). with_octets b (receipt a kept w l).kept (drop (receipt a kept w l).used w ++ p) next) c.receiver)

  few : Few_told (told_of q.event) (receipt a kept w l).packets
  unfolding receipt
  few =
      subst (λ (t : Tells). Few_told t (receipt a kept w l).packets) (sym c.tells)
      (heard-few a.session (kept_by a.source kept w) w l (scanned a.source kept w).taken)

  none : None_left (found_in a.source kept w).items (told_of q.event)
  unfolding receipt
  none =
      let f = finds a.source kept w in
      subst (None_left (found_in a.source kept w).items) (sym c.tells)
      (heard-none a.session a.source kept w l (scanned a.source kept w) (kept_by a.source kept w)
      (scanned a.source kept w).taken f.told
      (ap (λ (x : List ℕ). (found_in a.source kept x).items) (sym (append-nil w)) ∙ ap (λ (x : Found). x.items) (f.next [])))

  -- what was pulled is what was told
  pub gathers : {x : Pull} (failed : Bool) (n : ℕ) → x ≡ pulled q.event a.source failed n
      → with_pull x l'.octets l'.lengths g ≡ next
  gathers failed n e =
      let ps : List Handed = (receipt a kept w l).packets in
      ap (λ (y : Pull). with_pull y l'.octets l'.lengths g) e
      ∙ ap (λ (m : Lent). with_pull (pulled q.event a.source failed n) m.octets m.lengths g) c.leaves
      ∙ pull_told ps l.octets l.lengths g q.event a.source failed n few
      ∙ ap (λ (t : Tells). with_tells t ps g) c.tells

  pub ends : {x : Pull} (failed : Bool) (n : ℕ) → x ≡ pulled q.event a.source failed n → goes_on x ≡ false
      → next ≡ with_octets a kept w g
  ends failed n e h =
      ap (λ (t : Tells). with_tells t (receipt a kept w l).packets g) (sym c.tells)
      ∙ ended a.session (found_in a.source kept w).items (receipt a kept w l).packets g q.event a.source failed n
      (ap goes_on (sym e) ∙ h) none

-- ---- what the functions promise

-- by what was pulled
module _ (octets lengths : List ℕ) (g : Ledger) where
  pub more-comes : (p : Pull) → OneOf (0 ∷ 1 ∷ []) (tag_of the_type p) → Heeds p octets lengths g true g
  more-comes pull.More k = record { goes = refl; counts = refl }
  more-comes pull.Opened k = record { goes = refl; counts = refl }
  more-comes (pull.Answered a) k = absurd (miss (0 ∷ 1 ∷ []) 2 tt k)
  more-comes pull.Bad k = absurd (miss (0 ∷ 1 ∷ []) 3 tt k)
  more-comes pull.End k = absurd (miss (0 ∷ 1 ∷ []) 4 tt k)
  more-comes pull.Cut k = absurd (miss (0 ∷ 1 ∷ []) 5 tt k)
  more-comes pull.Failed k = absurd (miss (0 ∷ 1 ∷ []) 6 tt k)

  pub none-comes : (p : Pull) → OneOf (3 ∷ 4 ∷ 5 ∷ 6 ∷ []) (tag_of the_type p) → Heeds p octets lengths g false g
  none-comes pull.More k = absurd (miss (3 ∷ 4 ∷ 5 ∷ 6 ∷ []) 0 tt k)
  none-comes pull.Opened k = absurd (miss (3 ∷ 4 ∷ 5 ∷ 6 ∷ []) 1 tt k)
  none-comes (pull.Answered a) k = absurd (miss (3 ∷ 4 ∷ 5 ∷ 6 ∷ []) 2 tt k)
  none-comes pull.Bad k = record { goes = refl; counts = refl }
  none-comes pull.End k = record { goes = refl; counts = refl }
  none-comes pull.Cut k = record { goes = refl; counts = refl }
  none-comes pull.Failed k = record { goes = refl; counts = refl }

  pub one-answered : {p : Pull} {a : StepAnswer} {g' : Ledger} → p ≡ pull.Answered a → g' ≡ answer_counted a octets lengths g
      → Heeds p octets lengths g true g'
  one-answered h e = record { goes = ap goes_on (sym h); counts = e ∙ ap (λ (y : Pull). with_pull y octets lengths g) (sym h) }

pub is-bad : (p : Pull) → OneOf (3 ∷ 5 ∷ []) (tag_of the_type p) → true ≡ found_bad p
is-bad pull.More k = absurd (miss (3 ∷ 5 ∷ []) 0 tt k)
is-bad pull.Opened k = absurd (miss (3 ∷ 5 ∷ []) 1 tt k)
is-bad (pull.Answered a) k = absurd (miss (3 ∷ 5 ∷ []) 2 tt k)
is-bad pull.Bad k = refl
is-bad pull.End k = absurd (miss (3 ∷ 5 ∷ []) 4 tt k)
is-bad pull.Cut k = refl
is-bad pull.Failed k = absurd (miss (3 ∷ 5 ∷ []) 6 tt k)

pub not_bad : (p : Pull) → OneOf (0 ∷ 1 ∷ 2 ∷ 4 ∷ 6 ∷ []) (tag_of the_type p) → false ≡ found_bad p
not_bad pull.More k = refl
not_bad pull.Opened k = refl
not_bad (pull.Answered a) k = refl
not_bad pull.Bad k = absurd (miss (0 ∷ 1 ∷ 2 ∷ 4 ∷ 6 ∷ []) 3 tt k)
not_bad pull.End k = refl
not_bad pull.Cut k = absurd (miss (0 ∷ 1 ∷ 2 ∷ 4 ∷ 6 ∷ []) 5 tt k)
not_bad pull.Failed k = refl
