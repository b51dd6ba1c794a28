-- A reader of raw bits finds the frames again that were written.
use Rattle.std.specs.Prelude.{Ok}
use Prim.Native.Nat.{ℕ, zero, suc, ◌+◌, ◌-◌, ◌*◌, ◌/◌, ◌%◌, ◌≤◌, ◌<◌}
use mathlib.Core.Path.{◌≡◌, refl, sym, ap, ap₂, subst, ◌∙◌}
use mathlib.Core.Bool.{Bool, true, false}
use mathlib.Core.List.{List, [], ◌∷◌, ◌++◌, append_assoc, drop_last, flat_map, map}
use native.Mathlib.Omega.{arith}
use lib.ListN.{length, take, drop, length-append, length-take, length-drop}
use lib.Seq.{take_all, take-append-add, get_or-drop}
use lib.Dec.{ltb}
use borrow.Author.Tests.{ltb-false, eq-eqb}
use Rattle.octets.specs.Numbers.{at}
use Rattle.octets.specs.Pick.{pick}
use Rattle.octets.proofs.Choices.{not_picked}
use Rattle.octets.proofs.Tests.{or_left, or_right}
use Rattle.bits.specs.Rows.{zeros, bits_of_all}
use Rattle.bits.specs.Rows.Order.{high_first, low_first}
use Rattle.bits.specs.Field.{high_number, row_of}
use Rattle.bits.proofs.Numbers.{number-bits}
use Rattle.bits.proofs.Field.{rows_in}
use Rattle.answer.specs.Writer.{writing}
use Rattle.answer.proofs.Told.{refuse_or_accept, same-fields}
use Rattle.answer.proofs.Writer.{gives}
use Rattle.frame.specs.Limits.{least_length, greatest_length}
use Rattle.rules.specs.Packets.{cut, total}
use Rattle.stretch.specs.Stretch.{Stretch, found, clipped, most_kept}
use Rattle.rawbits.specs.Recording.{flag, onto, pieces, stretches, low_octets, left, stretch_of, stretches_in}
use Rattle.rawbits.proofs.Finding.{pieces_give_the_whole}
use Rattle.rawbits_writer.specs.Stream.{stuffed, body_bits, frame_bits, all_bits, stream_of, outside, any_outside, frames_wrong}
use Rattle.rawbits_writer.specs.Back.{NoFramesAreOneFlag, CallsFoundAgain}
use Rattle.rawbits_writer.proofs.Counting.{length-all}
use Rattle.rawbits_writer.proofs.Laid.{taken}
use Rattle.rawbits_writer.proofs.NoFlag.{destuffed-stuffed, stuffed-piece, not_abandoned}
use Rattle.rawbits_writer.proofs.Answers.{good-frames}

pub no_frames : NoFramesAreOneFlag
unfolding stream_of high_number
no_frames = refl

-- ---- one frame

record Sound (f : List ℕ) : Type 0 where
  pub small : (i : ℕ) → at f i < 256
  pub least : least_length ≤ length f
  pub greatest : length f ≤ greatest_length

low-octets : (f : List ℕ) → ((i : ℕ) → at f i < 256) → low_octets (length f) (bits_of_all low_first f) ≡ f
low-octets [] h = refl
low-octets (x ∷ f) h = ap₂ (λ (n : ℕ) (r : List ℕ). n ∷ r) (number-bits low_first 8 x (h 0)) (low-octets f (λ i. h (suc i)))

left-whole : (f : List ℕ) → ((i : ℕ) → at f i < 256) → left (bits_of_all low_first f) ≡ found f
unfolding left pick
left-whole f h =
    let n : length (bits_of_all low_first f) / 8 ≡ length f = omega (arith, length-all f) in
    rw (eq-eqb (length (bits_of_all low_first f) % 8) 0 (omega (arith, length-all f)))
    (ap found (ap (λ (k : ℕ). low_octets k (bits_of_all low_first f)) n ∙ low-octets f h))

stretch_some : (b : Bool) (s : List Bool) → stretch_of (stuffed 0 (b ∷ s)) ≡ left (b ∷ s) ∷ []
unfolding stretch_of pick
stretch_some false s = rw (not_abandoned (false ∷ s), destuffed-stuffed 0 s (omega arith))
stretch_some true s = rw (not_abandoned (true ∷ s), destuffed-stuffed 1 s (omega arith))

stretch_body : (f : List ℕ) → Sound f → stretch_of (body_bits f) ≡ found f ∷ []
stretch_body [] r = absurd (omega (arith, r.least))
stretch_body (x ∷ f) r = stretch_some _ _ ∙ ap (λ (s : Stretch). s ∷ []) (left-whole (x ∷ f) r.small)

-- ---- all frames

abbrev AllSound : List (List ℕ) → Type 0
AllSound [] = Unit {0}
AllSound (f ∷ fs) = Sound f × AllSound fs

abbrev bodies : List (List ℕ) → List (List Bool)
bodies [] = []
bodies (f ∷ fs) = body_bits f ∷ bodies fs

pieces-zeros : (n : ℕ) → pieces 0 (zeros n) ≡ zeros n ∷ []
pieces-zeros zero = refl
pieces-zeros (suc zero) = refl
pieces-zeros (suc (suc n)) = ap (onto false) (pieces-zeros (suc n))

pieces-frames : (fs : List (List ℕ)) (n : ℕ) → pieces 0 (frame_bits fs ++ zeros n) ≡ bodies fs ++ zeros n ∷ []
pieces-frames [] n = pieces-zeros n
pieces-frames (f ∷ fs) n =
    ap (pieces 0) (append_assoc (body_bits f ++ flag) (frame_bits fs) (zeros n) ∙ append_assoc (body_bits f) flag (frame_bits fs ++ zeros n))
    ∙ stuffed-piece (bits_of_all low_first f) (frame_bits fs ++ zeros n)
    ∙ ap (λ (r : List (List Bool)). body_bits f ∷ r) (pieces-frames fs n)

last_off : (p q : List Bool) (ps : List (List Bool)) → drop_last (p ∷ (ps ++ q ∷ [])) ≡ p ∷ drop_last (ps ++ q ∷ [])
last_off p q [] = refl
last_off p q (r ∷ ps) = refl

bodies_first : (fs : List (List ℕ)) (q : List Bool) → drop_last (bodies fs ++ q ∷ []) ≡ bodies fs
bodies_first [] q = refl
bodies_first (f ∷ fs) q = last_off (body_bits f) q (bodies fs) ∙ ap (λ (r : List (List Bool)). body_bits f ∷ r) (bodies_first fs q)

found_bodies : (fs : List (List ℕ)) → AllSound fs → flat_map stretch_of (bodies fs) ≡ map found fs
unfolding flat_map
found_bodies [] r = refl
found_bodies (f ∷ fs) r = ap₂ (λ (x y : List Stretch). x ++ y) (stretch_body f r.0) (found_bodies fs r.1)

-- ---- the octets

take-zeros : (k n : ℕ) → k ≤ n → take k (zeros n) ≡ zeros k
take-zeros zero n h = refl
take-zeros (suc k) zero h = absurd (omega arith)
take-zeros (suc k) (suc n) h = ap (λ (r : List Bool). false ∷ r) (take-zeros k n (omega arith))

stream_row : (fs : List (List ℕ)) → (n : ℕ) × (bits_of_all high_first (stream_of fs) ≡ all_bits fs ++ zeros n)
unfolding stream_of row_of
stream_row fs =
    let m = length (all_bits fs) in
    let n = (m + 7) / 8 * 8 - m in
    let e : (m + 7) / 8 * 8 ≡ m + n = omega arith in (
      n,
      rows_in ((m + 7) / 8) (all_bits fs ++ zeros 7) (omega (arith, length-append (all_bits fs) (zeros 7)))
          ∙ ap (λ (k : ℕ). take k (all_bits fs ++ zeros 7)) e ∙ take-append-add (all_bits fs) (zeros 7) n
          ∙ ap (λ (r : List Bool). all_bits fs ++ r) (take-zeros n 7 (omega arith)),
    )

stream_holds : (fs : List (List ℕ)) → AllSound fs → stretches_in (stream_of fs) ≡ map found fs
stream_holds fs r =
    let s = stream_row fs in
    ap (λ (b : List Bool). flat_map stretch_of (stretches b)) s.1
    ∙ ap (λ (ps : List (List Bool)). flat_map stretch_of (drop_last ps)) (pieces-frames fs s.0)
    ∙ ap (flat_map stretch_of) (bodies_first fs (zeros s.0)) ∙ found_bodies fs r

-- ---- what a call leaves

clipped-none : (fs : List (List ℕ)) → AllSound fs → map clipped (map found fs) ≡ map found fs
clipped-none [] r = refl
clipped-none (f ∷ fs) r =
    ap₂ (λ (x : List ℕ) (y : List Stretch). found x ∷ y) (take_all most_kept f (omega (arith, r.0.greatest))) (clipped-none fs r.1)

all_sound : (d ns : List ℕ) → ((i : ℕ) → at d i < 256) → total ns ≡ length d → any_outside ns ≡ false → AllSound (cut d ns)
all_sound d [] small e h = tt
all_sound d (n ∷ ns) small e h =
    let o = or_left (outside n) (any_outside ns) h in
    let l = length-take n d in (
      record {
        small = taken n d small;
        least = omega (arith, l, ltb-false n least_length (or_left (ltb n least_length) (ltb greatest_length n) o));
        greatest = omega (arith, l, ltb-false greatest_length n (or_right (ltb n least_length) (ltb greatest_length n) o));
      },
      all_sound (drop n d) ns (λ i. subst (λ (x : ℕ). x < 256) (sym (get_or-drop n d i 0)) (small (n + i))) (omega (arith, length-drop n d))
          (or_right (outside n) (any_outside ns) h),
    )

pub calls-found-again : CallsFoundAgain
unfolding writing
calls-found-again d ns out n out' small x =
    let a = not_picked (frames_wrong d ns) _ _ _ (sym x.answers) refuse_or_accept in
    let b = not_picked (ltb (length out) (length (stream_of (cut d ns)))) _ _ _ a.1 refuse_or_accept in
    let g = gives (frames_wrong d ns) (stream_of (cut d ns)) out (Ok n) out' a.0
    (ltb-false (length out) (length (stream_of (cut d ns))) b.0) x in
    let f = good-frames d ns a.0 in
    let r = all_sound d ns small f.adds f.inside in
    let s : take n out' ≡ stream_of (cut d ns) = ap (λ (k : ℕ). take k out') (sym (same-fields b.1)) ∙ g.leaves in
    record {
      whole = ap stretches_in s ∙ stream_holds (cut d ns) r;
      pieces = λ told a scans.
          pieces_give_the_whole (take n out') told a scans
          ∙ ap (λ (o : List ℕ). map clipped (stretches_in o)) s ∙ ap (map clipped) (stream_holds (cut d ns) r) ∙ clipped-none (cut d ns) r;
    }
