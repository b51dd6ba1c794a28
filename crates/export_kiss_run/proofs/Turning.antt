-- What a turn makes of a run.
use Rattle.std.proofs.Common.{◌≡◌, ℕ, zero, suc, ◌+◌, ◌-◌, ◌%◌, ◌^◌, ◌≤◌, Bool, true, false, eqb, ltb, List, [], ◌∷◌, ◌++◌, map, length}
use Rattle.std.proofs.Common.{take, drop, set, sym, refl, ap, ◌∙◌, subst, true≢false, arith, ltb-false}
use mathlib.Core.Bool.{false≢true}
use types.Run.{OneOf, miss}
use denote.Enum.Declared.{tag_of}
use Rattle.std.specs.Prelude.{Ok}
use Rattle.octets.specs.Pick.{pick}
use Rattle.kiss_writer.specs.Answers.{Exported}
use Rattle.octets.specs.Parts.{part}
use Rattle.octets.proofs.Choices.{picks}
use Rattle.octets.proofs.Placing.{part-some}
use Rattle.rules.specs.Packets as rules
use Rattle.frame.specs.Frame.{read_frame}
use Rattle.recording.specs.Sections.{longest_frame, length_at, Seen, frame_at}
use Rattle.recording.specs.Pieces.{Found, joined, found}
use Rattle.recording.specs.Reader.{seen_at, bad_at, passed, scanned, state_of, tells_of, Told}
use Rattle.recording.proofs.Scanning.{scans_find}
use Rattle.recording.specs.declared.Reader.{Reader}
use Rattle.recording.specs.declared.Reader.TheVariants as reader
use Rattle.recording.specs.declared.Taken.{Taken}
use Rattle.recording.specs.declared.Taken.TheVariants as taken
use Rattle.recording.specs.declared.Scanned.{Scanned}
use Rattle.recording.specs.contracts.Taken.{the_type}
use Rattle.kiss.specs.Stream.{mark}
use Rattle.window.specs.Window.{hand}
use Rattle.export_kiss_run.specs.Written.{handed_on, time_by, written_of, to_write}
use Rattle.export_kiss_run.specs.Turns.{HandsOn, end_of, refused_by, framed, leads, led_to, Sound}
use Rattle.export_kiss_run.specs.declared.Led.{Led}

-- ---- what a scan found is there

-- a frame of a recording has 1,024 octets at most
abbrev Short : Seen → Type 0
Short s = s.whole ≡ true → s.number ≤ longest_frame

frame-short : (w : List ℕ) → Short (frame_at w)
unfolding frame_at
frame-short w =
    picks Short (ltb (length w) 2) _ _ (λ h e. absurd (false≢true e))
    (λ h. picks Short (ltb longest_frame (length_at w)) _ _ (λ k e. absurd (false≢true e))
    (λ k. picks Short _ _ _ (λ m e. absurd (false≢true e)) (λ m e. ltb-false _ _ k)))

frames-short : (n : ℕ) (w : List ℕ) → Short (seen_at (reader.Frames n) w)
frames-short n w =
    picks Short (eqb n 0) _ _
    (λ h. picks Short (eqb (length w) 0) _ _ (λ k e. absurd (false≢true e)) (λ k e. absurd (false≢true e)))
    (λ h. frame-short w)

abbrev Few : Taken → Type 0
Few (taken.Missing m) = Unit {0}
Few taken.Bad = Unit {0}
Few taken.Over = Unit {0}
Few (taken.Opened x) = Unit {0}
Few taken.Nothing = Unit {0}
Few (taken.Here from to) = to - from ≤ 65535

passed-few : (a : Reader) (w : List ℕ) → (seen_at a w).whole ≡ true → Few (passed a (seen_at a w).number).taken
passed-few reader.Settings w h = tt
passed-few reader.Count w h = tt
passed-few (reader.Frames n) w h = omega (arith, frames-short n w h)
passed-few reader.Bad w h = tt

bad-few : (a : Reader) → Few (bad_at a).taken
bad-few reader.Settings = tt
bad-few reader.Count = tt
bad-few (reader.Frames n) = tt
bad-few reader.Bad = tt

scan-few : (a : Reader) (w : List ℕ) → Few (scanned a w).taken
unfolding scanned
scan-few a w =
    picks (λ (s : Scanned). Few s.taken) (seen_at a w).whole _ _ (λ h. passed-few a w h)
    (λ h. picks (λ (s : Scanned). Few s.taken) (seen_at a w).bad _ _ (λ k. bad-few a) (λ k. tt))

told-sound : (a : Reader) (w : List ℕ) (q : Scanned) (x : Taken) → Told a w q x → Few x → Sound x w
told-sound a w q (taken.Missing m) k f = tt
told-sound a w q taken.Bad k f = tt
told-sound a w q taken.Over k f = tt
told-sound a w q (taken.Opened t) k f = omega (arith, k.1)
told-sound a w q taken.Nothing k f = tt
told-sound a w q (taken.Here from to) k f = (k.1, k.2, f)

pub scan-sound : (a : Reader) {v w w' : List ℕ} {q : Scanned} → w ≡ v → w' ≡ v → q ≡ scanned a w → Sound q.taken w'
scan-sound a {v} {w} {w'} {q} at-hand again e =
    subst (λ (y : List ℕ). Sound q.taken y) (at-hand ∙ sym again)
    (subst (λ (y : Scanned). Sound y.taken w) (sym e)
    (told-sound a w (scanned a w) (scanned a w).taken (scans_find a w).told (scan-few a w)))

-- ---- what a section leads to

front : (o : List ℕ) → 1 ≤ length o → hand (set o 0 mark) 0 1 ≡ mark ∷ []
front [] h = absurd (omega arith)
front (y ∷ o) h = refl

take-few : (k : ℕ) (l : List ℕ) → length (take k l) ≤ k
take-few zero l = omega arith
take-few (suc k) [] = omega arith
take-few (suc k) (x ∷ l) = omega (arith, take-few k l)

module _ (both : Bool) (t n : ℕ) (w : List ℕ) {x : Taken} where
  pub opened : {m : ℕ} (out : List ℕ) → x ≡ taken.Opened m → Sound x w → 600 ≤ length out
      → led_to (record { t = m % 256; frames = n; from = 0; handed = Ok 1; going = true }) (set out 0 mark) ≡ leads both t n x w
  opened {m} out e s h =
      let small : m % 256 ≡ m = let k : m ≤ 255 = subst (λ (y : Taken). Sound y w) e s in omega arith in
      ap (λ (l : List ℕ). record { t = m % 256; frames = n; said = l; refusal = 0; going = true }) (front out (omega arith))
      ∙ ap (λ (k : ℕ). record { t = k; frames = n; said = mark ∷ []; refusal = 0; going = true }) small
      ∙ ap (λ (y : Taken). leads both t n y w) (sym e)

  pub handed-on : {from to : ℕ} {f out : List ℕ} {r : Exported} {k j : ℕ} → x ≡ taken.Here from to → Sound x w → f ≡ part w from (to - from)
      → HandsOn t f r out → k ≡ (n + 1) % 2 ^ 64 → j ≡ pick both 0 1
      → led_to (record { t = t; frames = k; from = j; handed = r; going = true }) out ≡ leads both t n x w
  handed-on {from} {to} {f} {out} {r} {k} {j} e s p h c i =
      let sound : Sound (taken.Here from to) w = subst (λ (y : Taken). Sound y w) e s in
      let octets : f ≡ take (to - from) (drop from w) = p ∙ sym (part-some w from (to - from) (omega (arith, sound.0, sound.1))) in
      ap (λ (y : ℕ). record { t = t; frames = k; said = hand out y (end_of r); refusal = refused_by r; going = true }) i
      ∙ ap (λ (y : List ℕ). record { t = t; frames = k; said = y; refusal = refused_by r; going = true }) (h.says both)
      ∙ ap (λ (y : ℕ). record { t = t; frames = k; said = handed_on both t f; refusal = y; going = true }) h.refuses
      ∙ ap (λ (y : ℕ). record { t = t; frames = y; said = handed_on both t f; refusal = (read_frame t f).refusal; going = true }) c
      ∙ ap (framed both t n) octets
      ∙ ap (λ (y : Taken). leads both t n y w) (sym e)

  pub few-octets : {from to : ℕ} {f : List ℕ} → x ≡ taken.Here from to → Sound x w → f ≡ part w from (to - from) → length f ≤ 65535
  few-octets {from} {to} e s p =
      let sound : Sound (taken.Here from to) w = subst (λ (y : Taken). Sound y w) e s in
      omega (
        arith,
        ap length (p ∙ sym (part-some w from (to - from) (omega (arith, sound.0, sound.1)))),
        take-few (to - from)
            (drop from w),
        sound.2,
      )

  pub in_order : {from to : ℕ} → x ≡ taken.Here from to → Sound x w → from ≤ to
  in_order {from} {to} e s = let sound : Sound (taken.Here from to) w = subst (λ (y : Taken). Sound y w) e s in sound.0

module _ (both : Bool) (t n : ℕ) (w out : List ℕ) where
  abbrev led : Bool → Led
  led going = record { t = t; frames = n; from = 0; handed = Ok 0; going = going }

  pub nothing-more : (x : Taken) → OneOf (1 ∷ 2 ∷ []) (tag_of the_type x) → led_to (led false) out ≡ leads both t n x w
  nothing-more (taken.Missing m) k = absurd (miss (1 ∷ 2 ∷ []) 0 tt k)
  nothing-more taken.Bad k = refl
  nothing-more taken.Over k = refl
  nothing-more (taken.Opened m) k = absurd (miss (1 ∷ 2 ∷ []) 3 tt k)
  nothing-more taken.Nothing k = absurd (miss (1 ∷ 2 ∷ []) 4 tt k)
  nothing-more (taken.Here from to) k = absurd (miss (1 ∷ 2 ∷ []) 5 tt k)

  pub nothing_yet : (x : Taken) → OneOf (4 ∷ 0 ∷ []) (tag_of the_type x) → led_to (led true) out ≡ leads both t n x w
  nothing_yet (taken.Missing m) k = refl
  nothing_yet taken.Bad k = absurd (miss (4 ∷ 0 ∷ []) 1 tt k)
  nothing_yet taken.Over k = absurd (miss (4 ∷ 0 ∷ []) 2 tt k)
  nothing_yet (taken.Opened m) k = absurd (miss (4 ∷ 0 ∷ []) 3 tt k)
  nothing_yet taken.Nothing k = refl
  nothing_yet (taken.Here from to) k = absurd (miss (4 ∷ 0 ∷ []) 5 tt k)

-- ---- what is to be written

-- behind a frame no t is told
abbrev Last : Taken → Found → Type 0
Last (taken.Missing m) f = Unit {0}
Last taken.Bad f = Unit {0}
Last taken.Over f = Unit {0}
Last (taken.Opened x) f = Unit {0}
Last taken.Nothing f = Unit {0}
Last (taken.Here from to) f = f.t ≡ []

one_more : (both : Bool) (t : ℕ) (x : List ℕ) (ts : List ℕ) (fs : List (List ℕ)) → ts ≡ []
    → map (λ (y : ℕ). mark) ts ++ rules.joined (map (handed_on both (time_by t ts)) (x ∷ fs))
    ≡ handed_on both t x ++ (map (λ (y : ℕ). mark) ts ++ rules.joined (map (handed_on both (time_by t ts)) fs))
one_more both t x [] fs e = refl
one_more both t x (y ∷ ts) fs e = let z : ◌≡◌ {A = ℕ} 0 1 = cc in absurd (omega arith)

by_taken : (both : Bool) (t n : ℕ) (w : List ℕ) (x : Taken) (f : Found) → Last x f
    → written_of both t (joined (tells_of x w) f) ≡ (leads both t n x w).said ++ written_of both (leads both t n x w).t f
by_taken both t n w (taken.Missing m) f l = refl
by_taken both t n w taken.Bad f l = refl
by_taken both t n w taken.Over f l = refl
by_taken both t n w (taken.Opened x) f l = refl
by_taken both t n w taken.Nothing f l = refl
by_taken both t n w (taken.Here from to) f l = one_more both t (take (to - from) (drop from w)) f.t f.frames l

told-last : (a : Reader) (w : List ℕ) (q : Scanned) (x : Taken) → Told a w q x → (p : List ℕ) → Last x (found (state_of q.reader p))
told-last a w q (taken.Missing m) k p = tt
told-last a w q taken.Bad k p = tt
told-last a w q taken.Over k p = tt
told-last a w q (taken.Opened x) k p = tt
told-last a w q taken.Nothing k p = tt
told-last a w q (taken.Here from to) k p = k.3 p

pub from-there : (both : Bool) (t n : ℕ) (a : Reader) (w p : List ℕ)
    → to_write both t a (w ++ p)
    ≡ (leads both t n (scanned a w).taken w).said
    ++ to_write both (leads both t n (scanned a w).taken w).t (scanned a w).reader (drop (scanned a w).used w ++ p)
from-there both t n a w p =
    let f = scans_find a w in
    ap (written_of both t) (f.next p)
    ∙ by_taken both t n w (scanned a w).taken _ (told-last a w (scanned a w) (scanned a w).taken f.told _)

-- a bad recording
pub told-bad : (both : Bool) (t n : ℕ) (a : Reader) (w : List ℕ) (q : Scanned) (x : Taken) → Told a w q x
    → (leads both t n x w).going ≡ false → q.reader ≡ reader.Bad
told-bad both t n a w q (taken.Missing m) k h = absurd (true≢false h)
told-bad both t n a w q taken.Bad k h = ap (λ (r : Scanned). r.reader) k.0
told-bad both t n a w q taken.Over k h = ap (λ (r : Scanned). r.reader) k.0
told-bad both t n a w q (taken.Opened x) k h = absurd (true≢false h)
told-bad both t n a w q taken.Nothing k h = absurd (true≢false h)
told-bad both t n a w q (taken.Here from to) k h = absurd (true≢false h)
