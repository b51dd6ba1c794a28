-- The import finds the frames again that the export wrote.
use Prim.Native.Nat.{ℕ, zero, suc, ◌+◌, ◌≤◌, ◌<◌}
use mathlib.Core.Path.{◌≡◌, refl, sym, ap, ap₂, subst, ◌∙◌}
use mathlib.Core.Bool.{Bool, true, false, false≢true}
use mathlib.Core.List.{List, [], ◌∷◌, ◌++◌, map, append_assoc}
use native.Mathlib.Omega.{arith}
use lib.ListN.{length, take, drop}
use lib.Seq.{take_all, take-append_seam, get_or-drop}
use lib.Dec.{ltb, eqb}
use Rattle.octets.specs.Numbers.{at}
use Rattle.octets.specs.Pick.{pick}
use Rattle.octets.proofs.Choices.{picked, not_picked}
use Rattle.bits.specs.Rows.{ones}
use Rattle.bits.specs.Rows.Order.{low_first}
use Rattle.crc.specs.Check.{before, with_check}
use Rattle.crc.proofs.Ends as crc
use Rattle.answer.specs.Told.{Told, accept}
use Rattle.answer.proofs.Told.{refuse_or_accept, same-fields}
use Rattle.frame.specs.Limits.{longest_time}
use Rattle.frame.specs.Frame.{read_frame}
use Rattle.frame.proofs.Tells.{read-tells}
use Rattle.frame.proofs.Accepts.{passed}
use Rattle.rules.specs.Packets as rules
use Rattle.rules.specs.Packets.{cut}
use Rattle.lengths.specs.Lengths.{lengths_wrong}
use Rattle.stretch.specs.Stretch.{Stretch, found, clipped, most_kept}
use Rattle.kiss.specs.Stream.{mark, data_frame, parted, all_but_last, escaped, typed, stretch_of, stretches_of, stretches_in}
use Rattle.kiss.proofs.Pieces.{in_any_pieces}
use Rattle.kiss.proofs.Written.{parted-none, escapes_undone}
use Rattle.kiss_writer.specs.Export.{block_of, stream_of, first_bad, room_for, exporting}
use Rattle.kiss_writer.specs.Back.{CallsFoundAgain}
use Rattle.kiss_writer.proofs.Answers.{good-accepted}

-- ---- one frame

abbrev Octets : List ℕ → Type 0
Octets s = (i : ℕ) → at s i < 256

-- a frame that the reader accepts is its octets before the check, with their check, and short enough to be kept whole
record Right (f : List ℕ) : Type 0 where
  pub check : with_check low_first (ones 16) (before f) ≡ f
  pub short : length f ≤ most_kept

right : (t : ℕ) (f : List ℕ) → Octets f → (read_frame t f).accepted ≡ true → Right f
right t f small h =
    let p = (passed t f _ ((read-tells t f).plain h)).0 in
    record {
      check = crc.accepted low_first (ones 16) f (record { small = small; two = omega (arith, p.least) }) p.check;
      short = omega (arith, p.greatest);
    }

found_block : (f : List ℕ) → Right f → stretch_of (escaped (data_frame ∷ before f)) ≡ found f ∷ []
found_block f r =
    ap typed (escapes_undone (data_frame ∷ before f)).again
    ∙ ap (λ (s : Stretch). s ∷ []) (sym (picked (eqb data_frame data_frame) _ _ refl) ∙ ap found r.check)

-- ---- all frames

abbrev AllRight : List (List ℕ) → Type 0
AllRight [] = Unit {0}
AllRight (f ∷ fs) = Right f × AllRight fs

abbrev parts : List (List ℕ) → List (List ℕ)
parts [] = []
parts (f ∷ fs) = escaped (data_frame ∷ before f) ∷ parts fs

parted_blocks : (fs : List (List ℕ)) → parted (rules.joined (map block_of fs)) ≡ parts fs ++ [] ∷ []
parted_blocks [] = refl
parted_blocks (f ∷ fs) =
    ap parted (append_assoc (escaped (data_frame ∷ before f)) (mark ∷ []) (rules.joined (map block_of fs)))
    ∙ parted-none (escaped (data_frame ∷ before f)) (rules.joined (map block_of fs)) (escapes_undone (data_frame ∷ before f)).inside
    ∙ ap (λ (r : List (List ℕ)). escaped (data_frame ∷ before f) ∷ r) (parted_blocks fs)

front-snoc : (p q : List ℕ) (ps : List (List ℕ)) → all_but_last (p ∷ (ps ++ q ∷ [])) ≡ p ∷ all_but_last (ps ++ q ∷ [])
front-snoc p q [] = refl
front-snoc p q (r ∷ ps) = refl

front-parts : (fs : List (List ℕ)) → all_but_last (parts fs ++ [] ∷ []) ≡ parts fs
front-parts [] = refl
front-parts (f ∷ fs) =
    front-snoc (escaped (data_frame ∷ before f)) [] (parts fs) ∙ ap (λ (r : List (List ℕ)). escaped (data_frame ∷ before f) ∷ r)
    (front-parts fs)

found-parts : (fs : List (List ℕ)) → AllRight fs → stretches_of (parts fs) ≡ map found fs
found-parts [] r = refl
found-parts (f ∷ fs) r = ap₂ (λ (x y : List Stretch). x ++ y) (found_block f r.0) (found-parts fs r.1)

stream_holds : (fs : List (List ℕ)) → AllRight fs → stretches_in (stream_of fs) ≡ map found fs
unfolding stretches_in pick
stream_holds fs r =
    ap (λ (ps : List (List ℕ)). stretches_of (all_but_last ps)) (parted_blocks fs) ∙ ap stretches_of (front-parts fs) ∙ found-parts fs r

clipped-none : (fs : List (List ℕ)) → AllRight fs → map clipped (map found fs) ≡ map found fs
clipped-none [] r = refl
clipped-none (f ∷ fs) r = ap₂ (λ (x : List ℕ) (y : List Stretch). found x ∷ y) (take_all most_kept f r.0.short) (clipped-none fs r.1)

taken : (n : ℕ) (d : List ℕ) → Octets d → Octets (take n d)
taken zero d small i = omega arith
taken (suc n) [] small i = omega arith
taken (suc n) (x ∷ d) small zero = small 0
taken (suc n) (x ∷ d) small (suc i) = taken n d (λ j. small (suc j)) i

dropped : (n : ℕ) (d : List ℕ) → Octets d → Octets (drop n d)
dropped n d small i = subst (λ (x : ℕ). x < 256) (sym (get_or-drop n d i 0)) (small (n + i))

all_right_lem : (t : ℕ) (d ns : List ℕ) → Octets d → (first_bad t (cut d ns)).accepted ≡ true → AllRight (cut d ns)
all_right_lem t d [] small h = tt
all_right_lem t d (n ∷ ns) small h =
    let g = good-accepted t (take n d) (cut (drop n d) ns) h in
    (right t (take n d) (taken n d small) g.0, all_right_lem t (drop n d) ns (dropped n d small) g.1)

-- ---- what a call leaves

-- a length is answered only if no frame is bad, and it is the stream's
record Wrote (t : ℕ) (d ns : List ℕ) (n : ℕ) : Type 0 where
  pub good : (first_bad t (cut d ns)).accepted ≡ true
  pub length : length (stream_of (cut d ns)) ≡ n

of_room : (stream out : List ℕ) (n : ℕ) → room_for stream out ≡ accept n → length stream ≡ n
of_room stream out n e = same-fields (not_picked (ltb (length out) (length stream)) _ _ _ e refuse_or_accept).1

of_frames_lem : (t : ℕ) (d ns out : List ℕ) (n : ℕ) (b : Bool) → (first_bad t (cut d ns)).accepted ≡ b
    → pick b (room_for (stream_of (cut d ns)) out) (first_bad t (cut d ns)) ≡ accept n → Wrote t d ns n
unfolding pick
of_frames_lem t d ns out n true e h = record { good = e; length = of_room (stream_of (cut d ns)) out n h }
of_frames_lem t d ns out n false e h = absurd (false≢true (sym e ∙ ap (λ (r : Told ℕ). r.accepted) h))

of_answer : (t : ℕ) (d ns out : List ℕ) (n : ℕ) → accept n ≡ exporting t d ns out → Wrote t d ns n
unfolding exporting
of_answer t d ns out n e =
    let a = not_picked (ltb longest_time t) _ _ _ (sym e) refuse_or_accept in
    let b = not_picked (lengths_wrong ns (length d)) _ _ _ a.1 refuse_or_accept in
    of_frames_lem t d ns out n (first_bad t (cut d ns)).accepted refl b.1

pub calls-found-again : CallsFoundAgain
calls-found-again t d ns out n out' small x =
    let w = of_answer t d ns out n x.answers in
    let r = all_right_lem t d ns small w.good in
    let s : take n out' ≡ stream_of (cut d ns) =
    ap₂ (λ (k : ℕ) (o : List ℕ). take k o) (sym w.length) (x.leaves ∙ sym (picked true _ _ refl)) ∙ take-append_seam
    (stream_of (cut d ns)) _ in
    record {
      whole = ap stretches_in s ∙ stream_holds (cut d ns) r;
      pieces = λ kept pieces told l j scans.
          in_any_pieces kept pieces told l scans
          ∙ ap (λ (o : List ℕ). map clipped (stretches_in o)) (j ∙ s) ∙ ap (map clipped) (stream_holds (cut d ns) r) ∙ clipped-none
          (cut d ns) r;
    }
