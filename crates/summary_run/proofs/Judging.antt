-- Whether a recording is bad, by what a receiver tells of it section by section.
use Prim.Native.Nat.{ℕ, zero, suc}
use mathlib.Core.Path.{◌≡◌, refl, sym, ap, ◌∙◌, subst}
use mathlib.Core.List.{List, [], ◌++◌, append-nil}
use mathlib.Core.Bool.{Bool, true, false, ◌||◌, true≢false}
use lib.Dec.{eqb}
use borrow.Author.Tests.{eq-eqb}
use lib.ListN.{length, drop}
use Rattle.octets.specs.Pick.{pick}
use Rattle.recording.specs.Reader as recording
use Rattle.recording.proofs.Scanning as reading
use Rattle.recording.specs.declared.Reader.{Reader}
use Rattle.recording.specs.declared.Reader.TheVariants as reader
use Rattle.recording.specs.declared.Taken.{Taken as Section}
use Rattle.recording.specs.declared.Taken.TheVariants as section
use Rattle.recording.specs.declared.Scanned.{Scanned as SectionScanned}
use Rattle.stretch.specs.declared.Found.{Found as Stretched}
use Rattle.stretch.specs.declared.Found.TheVariants as stretched
use Rattle.source.specs.Found.{Found, found_in, cut_at}
use Rattle.source.specs.Found.{joined as foundBoth}
use Rattle.source.specs.Scan.{scanned, kept_by, taken_of, stream_taken, tells, Finds}
use Rattle.source.specs.Scan.{Told as ToldBy}
use Rattle.source.specs.declared.Scanned.{Scanned}
use Rattle.source.specs.declared.Source.{Source}
use Rattle.source.specs.declared.Source.TheVariants as source
use Rattle.source.specs.declared.Taken.{Taken}
use Rattle.source.specs.declared.Taken.TheVariants as taken
use Rattle.session.specs.Lent.{Lent}
use Rattle.session.specs.declared.Session.{Session}
use Rattle.receiver.specs.Receive.{Tells, missing, bad, over, opened, nothing, answered, told_of, heard, Receives}
use Rattle.receiver.specs.Receive.{received as receipt}
use Rattle.receiver.specs.declared.Receiver.{Receiver}
use Rattle.receiver.specs.declared.Received.{Received as Called}
use Rattle.receiver.specs.declared.Event.{Event}
use Rattle.receiver.specs.declared.Event.TheVariants as event
use Rattle.feed.specs.Pull.{at_end, pulled}
use Rattle.feed.specs.declared.Pull.{Pull}
use Rattle.feed.specs.declared.Pull.TheVariants as pull
use Rattle.summary_run.specs.Counted.{reader_was_bad, was_bad, is_bad, bad_in, goes_on, found_bad}
use Rattle.summary_run.proofs.Counting.{finds}

-- ---- a source that was not found bad

not_bad : (a : Reader) → (a ≡ reader.Bad → ⊥) → reader_was_bad a ≡ false
not_bad reader.Settings n = refl
not_bad reader.Count n = refl
not_bad (reader.Frames m) n = refl
not_bad reader.Bad n = absurd (n refl)

-- what a scan says of that: it stays so, unless the recording is found bad
abbrev Marks : Source → Source → Taken → Type 0
Marks s r (taken.Missing n) = (was_bad r ≡ was_bad s) × (was_bad s ≡ false)
Marks s r taken.Bad = Unit {0}
Marks s r taken.Over = was_bad s ≡ true
Marks s r (taken.Opened t) = was_bad r ≡ was_bad s
Marks s r taken.Nothing = was_bad r ≡ was_bad s
Marks s r (taken.Here from to) = was_bad r ≡ was_bad s
Marks s r (taken.Kept n) = was_bad r ≡ was_bad s
Marks s r (taken.Refused n) = was_bad r ≡ was_bad s

module _ (a : Reader) (w : List ℕ) (r : SectionScanned) where
  goes : recording.Goes a r → reader_was_bad r.reader ≡ reader_was_bad a
  goes g = not_bad r.reader g.behind ∙ sym (not_bad a g.before)

  section_marks : (t : Section) → recording.Told a w r t → Marks (source.Recording a) (source.Recording r.reader) (taken_of t)
  section_marks (section.Missing n) k = (ap (λ (z : SectionScanned). reader_was_bad z.reader) k.0, not_bad a k.1.good)
  section_marks section.Bad k = tt
  section_marks section.Over k = ap reader_was_bad k.1
  section_marks (section.Opened t) k = goes k.0
  section_marks section.Nothing k = goes k
  section_marks (section.Here from to) k = goes k.0

module _ (s r : Source) (h : was_bad s ≡ false) (k : was_bad r ≡ false) where
  stream_marks : (n : ℕ) (f : Stretched) → Marks s r (stream_taken n f)
  unfolding stream_taken
  stream_marks zero f = (k ∙ sym h, h)
  stream_marks (suc n) stretched.Nothing = k ∙ sym h
  stream_marks (suc n) (stretched.Frame m) = k ∙ sym h
  stream_marks (suc n) (stretched.Refused m) = k ∙ sym h

marks : (s : Source) (kept w : List ℕ) → Marks s (scanned s kept w).source (scanned s kept w).taken
unfolding scanned
marks (source.Recording a) kept w =
    section_marks a w (recording.scanned a w) (recording.scanned a w).taken (reading.scans_find a w).told
marks (source.Kiss a) kept w = stream_marks (source.Kiss a) (scanned (source.Kiss a) kept w).source refl refl (length w) _
marks (source.Bits a) kept w = stream_marks (source.Bits a) (scanned (source.Bits a) kept w).source refl refl (length w) _

-- ---- by what is told

-- Whether it is bad from here on, B, and from there on, R, whatever comes; cut says whether it may not end here.
abbrev Judged : (List ℕ → Bool) → (List ℕ → Bool) → Bool → Tells → Type 0
Judged B R cut (missing n) = ((p : List ℕ) → B p ≡ R p) × (B [] ≡ cut)
Judged B R cut bad = (p : List ℕ) → B p ≡ true
Judged B R cut over = (p : List ℕ) → B p ≡ true
Judged B R cut opened = (p : List ℕ) → B p ≡ R p
Judged B R cut nothing = (p : List ℕ) → B p ≡ R p
Judged B R cut (answered t) = (p : List ℕ) → B p ≡ R p

true_behind : (b : Bool) → (b || true) ≡ true
true_behind true = refl
true_behind false = refl

module _ (z : Session) (s : Source) (kept w : List ℕ) (l : Lent) (r : Scanned) (kept' : List ℕ) (f : Finds s kept w r kept') where
  abbrev B : List ℕ → Bool
  B p = was_bad s || is_bad (found_in s kept (w ++ p))

  abbrev R : List ℕ → Bool
  R p = was_bad r.source || is_bad (found_in r.source kept' (drop r.used w ++ p))

  -- what was found first is not bad
  rest : (t : Taken) → r.taken ≡ t → was_bad r.source ≡ was_bad s
      → ((y : Found) → is_bad (foundBoth (tells t kept' w) y) ≡ is_bad y) → (p : List ℕ) → B p ≡ R p
  rest t e m same p =
      let y : Found = found_in r.source kept' (drop r.used w ++ p) in
      ap (λ (v : Found). was_bad s || is_bad v) (f.next p ∙ ap (λ (u : Taken). foundBoth (tells u kept' w) y) e)
      ∙ ap (λ (b : Bool). was_bad s || b) (same y)
      ∙ ap (λ (b : Bool). b || is_bad y) (sym m)

  judged_by : (t : Taken) → r.taken ≡ t → Marks s r.source t → ToldBy s kept w r kept' t → Judged B R (cut_at s)
      (heard z kept' w l t).tells
  judged_by (taken.Missing n) e m k = (
    rest (taken.Missing n) e m.0 (λ y. refl),
    ap (λ (b : Bool). b || is_bad (found_in s kept (w ++ []))) m.1
        ∙ ap (λ (x : List ℕ). is_bad (found_in s kept x)) (append-nil w)
        ∙ ap is_bad k.1.none,
  )
  judged_by taken.Bad e m k = λ p.
      ap (λ (v : Found). was_bad s || is_bad v)
      (f.next p ∙ ap (λ (u : Taken). foundBoth (tells u kept' w) (found_in r.source kept' (drop r.used w ++ p))) e)
      ∙ true_behind (was_bad s)
  judged_by taken.Over e m k = λ p. ap (λ (b : Bool). b || is_bad (found_in s kept (w ++ p))) m
  judged_by (taken.Opened t) e m k = rest (taken.Opened t) e m (λ y. refl)
  judged_by taken.Nothing e m k = rest taken.Nothing e m (λ y. refl)
  judged_by (taken.Here from to) e m k = rest (taken.Here from to) e m (λ y. refl)
  judged_by (taken.Kept n) e m k = rest (taken.Kept n) e m (λ y. refl)
  judged_by (taken.Refused n) e m k = rest (taken.Refused n) e m (λ y. refl)

-- ---- by what was pulled

-- a run that goes on
goes_on_lem : (B R : List ℕ → Bool) (cut : Bool) (e : Event) (s : Source) (failed : Bool) (n : ℕ) → Judged B R cut (told_of e)
    → goes_on (pulled e s failed n) ≡ true → (p : List ℕ) → B p ≡ R p
goes_on_lem B R cut (event.Missing m) s failed n j g p = j.0 p
goes_on_lem B R cut event.Bad s failed n j g p = absurd (true≢false (sym g))
goes_on_lem B R cut event.Over s failed n j g p = absurd (true≢false (sym g))
goes_on_lem B R cut event.Opened s failed n j g p = j p
goes_on_lem B R cut event.Nothing s failed n j g p = j p
goes_on_lem B R cut (event.Answered a) s failed n j g p = j p

-- a run that ends with no failed read, which brought nothing
comes-to : (B R : List ℕ → Bool) (e : Event) (s : Source) (failed : Bool) (n : ℕ) → Judged B R (cut_at s) (told_of e)
    → goes_on (pulled e s failed n) ≡ false → failed ≡ false → n ≡ 0 → found_bad (pulled e s failed n) ≡ B []
unfolding at_end pick
comes-to B R (event.Missing m) s failed n j g f z =
    ap (λ (b : Bool). found_bad (pick b pull.Failed (pick (eqb n 0) (pick (cut_at s) pull.Cut pull.End) pull.More))) f
    ∙ ap (λ (b : Bool). found_bad (pick b (pick (cut_at s) pull.Cut pull.End) pull.More)) (eq-eqb n 0 z)
    ∙ cut_or_end (cut_at s)
    ∙ sym j.1
  where
    cut_or_end : (b : Bool) → found_bad (pick b pull.Cut pull.End) ≡ b
    cut_or_end true = refl
    cut_or_end false = refl
comes-to B R event.Bad s failed n j g f z = sym (j [])
comes-to B R event.Over s failed n j g f z = sym (j [])
comes-to B R event.Opened s failed n j g f z = absurd (true≢false g)
comes-to B R event.Nothing s failed n j g f z = absurd (true≢false g)
comes-to B R (event.Answered a) s failed n j g f z = absurd (true≢false g)

-- a call of a receiver
module _ (a : Receiver) (kept w : List ℕ) {l : Lent} {q : Called} {kept' : List ℕ} {l' : Lent} (c : Receives a kept w l q kept' l') where
  abbrev here : List ℕ → Bool
  here p = bad_in a kept (w ++ p)

  abbrev there : List ℕ → Bool
  there p = bad_in (receipt a kept w l).receiver (receipt a kept w l).kept (drop (receipt a kept w l).used w ++ p)

  by_call : Judged here there (cut_at a.source) (told_of q.event)
  unfolding receipt
  by_call =
      let s : Source = a.source in
      let f = finds s kept w in
      subst (Judged here there (cut_at s)) (sym c.tells)
      (judged_by a.session s kept w l (scanned s kept w) (kept_by s kept w) f (scanned s kept w).taken refl (marks s kept w) f.told)

  pub judges : {x : Pull} (failed : Bool) (n : ℕ) → x ≡ pulled q.event a.source failed n → goes_on x ≡ true
      → (p : List ℕ) → bad_in a kept (w ++ p) ≡ bad_in q.receiver kept' (drop q.used w ++ p)
  judges failed n e h p =
      goes_on_lem here there (cut_at a.source) q.event a.source failed n by_call (ap goes_on (sym e) ∙ h) p
      ∙ sym
      (ap (λ (k : List ℕ). bad_in q.receiver k (drop q.used w ++ p)) c.keeps
      ∙ ap (λ (m : ℕ). bad_in q.receiver (receipt a kept w l).kept (drop m w ++ p)) c.used
      ∙ ap (λ (b : Receiver). bad_in b (receipt a kept w l).kept (drop (receipt a kept w l).used w ++ p)) c.receiver)

  pub judged : {x : Pull} (failed : Bool) (n : ℕ) → x ≡ pulled q.event a.source failed n → goes_on x ≡ false → failed ≡ false → n ≡ 0
      → found_bad x ≡ bad_in a kept w
  judged failed n e h f z =
      ap found_bad e
      ∙ comes-to here there q.event a.source failed n by_call (ap goes_on (sym e) ∙ h) f z
      ∙ ap (λ (x : List ℕ). bad_in a kept x) (append-nil w)
