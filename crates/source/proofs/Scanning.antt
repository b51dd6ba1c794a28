-- What a scan of a source finds.
use Prim.Native.Nat.{ℕ}
use mathlib.Core.Path.{◌≡◌, refl, sym, ap, ◌∙◌, subst}
use mathlib.Core.List.{List, [], ◌∷◌, ◌++◌, map}
use mathlib.Core.Bool.{false}
use lib.ListN.{drop}
use Rattle.stretch.specs.Stretch.{found}
use Rattle.recording.specs.Pieces as recording
use Rattle.recording.specs.Reader as reading
use Rattle.recording.proofs.Scanning.{scans_find as sections-find}
use Rattle.recording.specs.declared.Reader.{Reader}
use Rattle.recording.specs.declared.Reader.TheVariants as reader
use Rattle.recording.specs.declared.Taken.{Taken as Section}
use Rattle.recording.specs.declared.Taken.TheVariants as section
use Rattle.recording.specs.declared.Scanned.{Scanned as SectionScanned}
use Rattle.source.specs.Found.{Item, offers, opens, one, joined, is_bad, is_cut, of_recording, found_by}
use Rattle.source.specs.Scan.{taken_of, section_scanned, scanned, kept_by, Scans, tells, Told, Finds, ScansFind}
use Rattle.source.specs.declared.Source.{Source}
use Rattle.source.specs.declared.Source.TheVariants as source
use Rattle.source.specs.declared.Taken.{Taken}
use Rattle.source.specs.declared.Taken.TheVariants as taken
use Rattle.source.specs.declared.Scanned.{Scanned}
use Rattle.source.proofs.Streaming.{kiss_finds, bits-finds}

abbrev of : Reader → Source
of a = source.Recording a

-- what the recording's reader answers is what is scanned
section-scanned : (a : Reader) (kept w : List ℕ) {q : SectionScanned} {t : Taken} → q ≡ reading.scanned a w → t ≡ taken_of q.taken
    → Scans (of a) kept w (record { source = of q.reader; used = q.used; taken = t }) kept
unfolding scanned kept_by
section-scanned a kept w {q} e d = record {
  answers = ap (λ (x : Taken). record { source = of q.reader; used = q.used; taken = x }) d ∙ ap section_scanned e;
  keeps = refl;
}

pub section-scans : {s : Source} {a : Reader} {kept w : List ℕ} {q : SectionScanned} {t : Taken} → s ≡ of a → q ≡ reading.scanned a w
    → t ≡ taken_of q.taken
    → Scans s kept w (record { source = of q.reader; used = q.used; taken = t }) kept
section-scans {s} {a} {kept} {w} {q} {t} h e d =
    subst (λ (x : Source). Scans x kept w (record { source = of q.reader; used = q.used; taken = t }) kept) (sym h)
    (section-scanned a kept w e d)

abbrev items_of : List ℕ → List (List ℕ) → List Item
items_of ts fs = map opens ts ++ map (λ x. offers (found x)) fs

-- a recording that is not bad
going : (a : Reader) (w : List ℕ) → (a ≡ reader.Bad → ⊥) → found_by a w ≡ of_recording (recording.found (reading.state_of a w))
going reader.Settings w h = refl
going reader.Count w h = refl
going (reader.Frames n) w h = refl
going reader.Bad w h = absurd (h refl)

-- no t comes behind a frame
frame-first : (x : List ℕ) (fs : List (List ℕ)) {ts : List ℕ} → ts ≡ [] → items_of ts (x ∷ fs) ≡ offers (found x) ∷ items_of ts fs
frame-first x fs h = ap (λ (ts : List ℕ). items_of ts (x ∷ fs)) h ∙ sym (ap (λ (ts : List ℕ). offers (found x) ∷ items_of ts fs) h)

after_frame : (x : List ℕ) (f : recording.Found) → f.t ≡ [] → of_recording
    (recording.joined (record { t = []; frames = x ∷ []; state = recording.bad }) f) ≡ joined (one (offers (found x))) (of_recording f)
unfolding of_recording
after_frame x f h =
    ap (λ (l : List Item). record { items = l; bad = is_bad f.state; cut = is_cut f.state }) (frame-first x f.frames h)

-- What a recording's reader found is what the source tells, then what is found behind it.
module _ (a : Reader) (kept w : List ℕ) {q : SectionScanned} (f : reading.Finds a w q) where
  abbrev rest : List ℕ → List ℕ
  rest p = drop q.used w ++ p

  -- by the section
  on : {t : Section} → q.taken ≡ t → (a ≡ reader.Bad → ⊥) → (p : List ℕ)
      → found_by a (w ++ p) ≡ of_recording (recording.joined (reading.tells_of t w) (recording.found (reading.state_of q.reader (rest p))))
  on e good p =
      going a (w ++ p) good ∙ ap of_recording
      (f.next p ∙ ap (λ (t : Section). recording.joined (reading.tells_of t w) (recording.found (reading.state_of q.reader (rest p)))) e)

  known : {t : Section} → q.taken ≡ t → reading.Told a w q t
  known e = subst (reading.Told a w q) e f.told

  -- the source's law, by the section
  abbrev Law : Section → Type 0
  Law t = (p : List ℕ) → found_by a (w ++ p) ≡ joined (tells (taken_of t) kept w) (found_by q.reader (rest p))

  goes_on_lem : {t : Section} → q.taken ≡ t → reading.Goes a q
      → ((p : List ℕ) → of_recording (recording.joined (reading.tells_of t w) (recording.found (reading.state_of q.reader (rest p)))) ≡
      joined (tells (taken_of t) kept w) (of_recording (recording.found (reading.state_of q.reader (rest p)))))
      → Law t
  goes_on_lem {t} e g h p = on e g.before p ∙ h p ∙ ap (joined (tells (taken_of t) kept w)) (sym (going q.reader (rest p) g.behind))

  law : (t : Section) → q.taken ≡ t → Law t
  unfolding of_recording
  law (section.Missing n) e p = ap (λ (r : SectionScanned). found_by r.reader (drop r.used w ++ p)) (sym (known e).0)
  law section.Bad e p =
      on e (known e).1 p
      ∙ ap (λ (r : SectionScanned). of_recording
      (recording.joined (recording.nothing recording.bad) (recording.found (reading.state_of r.reader (drop r.used w ++ p)))))
      (known e).0
      ∙ ap (λ (r : SectionScanned). joined (tells taken.Bad kept w) (found_by r.reader (drop r.used w ++ p))) (sym (known e).0)
  law section.Over e p =
      ap (λ (b : Reader). found_by b (w ++ p)) (known e).1 ∙ ap (λ (r : SectionScanned). found_by r.reader (drop r.used w ++ p))
      (sym (known e).0)
  law (section.Opened t) e p = goes_on_lem e (known e).0 (λ p. refl) p
  law section.Nothing e p = goes_on_lem e (known e) (λ p. refl) p
  law (section.Here from to) e p =
      goes_on_lem e (known e).0 (λ p. after_frame _ (recording.found (reading.state_of q.reader (rest p))) ((known e).3 (rest p))) p

  -- nothing is found yet
  waits : (b : Reader) → (b ≡ reader.Bad → ⊥) → recording.found (reading.state_of b w) ≡ recording.nothing (reading.state_of b w)
      → found_by b w ≡ record { items = []; bad = false; cut = is_cut (reading.state_of b []) }
  unfolding of_recording
  waits reader.Settings h e = ap of_recording e
  waits reader.Count h e = ap of_recording e
  waits (reader.Frames n) h e = ap of_recording e
  waits reader.Bad h e = absurd (h refl)

  abbrev answer : Scanned
  answer = section_scanned q

  tells_so : (t : Section) → q.taken ≡ t → Told (of a) kept w answer kept (taken_of t)
  tells_so (section.Missing n) e =
      let k = known e in (
        (ap (λ (r : SectionScanned). of r.reader) k.0, refl, ap (λ (r : SectionScanned). r.used) k.0),
        record
            { none = waits a k.1.good k.1.none; some = k.1.some; room = k.1.room },
      )
  tells_so section.Bad e =
      (ap (λ (r : SectionScanned). r.used) (known e).0, λ v. ap (λ (r : SectionScanned). found_by r.reader v) (known e).0)
  tells_so section.Over e =
      let k = known e in (
        (ap (λ (r : SectionScanned). of r.reader) k.0 ∙ ap of (sym k.1), refl, ap (λ (r : SectionScanned). r.used) k.0),
        λ v. ap
            (λ (b : Reader). found_by b v) k.1,
      )
  tells_so (section.Opened t) e = ((known e).0.some, (known e).1)
  tells_so section.Nothing e = (known e).some
  tells_so (section.Here from to) e = ((known e).0.some, (known e).1, (known e).2)

  section-finds : Finds (of a) kept w answer kept
  section-finds = record { next = law q.taken refl; inside = f.inside; told = tells_so q.taken refl }

-- what a source of any kind finds
all_find : (s : Source) (kept w : List ℕ) → Finds s kept w (scanned s kept w) (kept_by s kept w)
unfolding scanned kept_by
all_find (source.Recording a) kept w = section-finds a kept w (sections-find a w)
all_find (source.Kiss a) kept w = kiss_finds a kept w
all_find (source.Bits a) kept w = bits-finds a kept w

finds : {s : Source} {kept w : List ℕ} {r : Scanned} {kept' : List ℕ} → Scans s kept w r kept' → Finds s kept w r kept'
finds {s} {kept} {w} {r} {kept'} x =
    subst (λ (k : List ℕ). Finds s kept w r k) (sym x.keeps)
    (subst (λ (q : Scanned). Finds s kept w q (kept_by s kept w)) (sym x.answers) (all_find s kept w))

pub scans_find : ScansFind
scans_find = record { finds = finds }
