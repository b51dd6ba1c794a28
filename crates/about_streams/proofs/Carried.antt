-- Demand 3 for frames that arrive by a stream.
use Prim.Native.Nat.{ℕ, ◌+◌, ◌≤◌, ◌<◌}
use mathlib.Core.Path.{◌≡◌, refl, sym, ap, ap₂, subst, ◌∙◌}
use mathlib.Core.Bool.{Bool, true, false}
use mathlib.Core.List.{List, [], ◌∷◌, ◌++◌, map}
use native.Mathlib.Omega.{arith}
use lib.ListN.{length, take, length-take}
use lib.Seq.{take_all}
use lib.Dec.{ltb}
use borrow.Author.Tests.{ltb-true, ltb-false}
use Rattle.octets.proofs.Choices.{picks}
use Rattle.octets.proofs.Choices as choices
use Rattle.answer.specs.Told.{Told}
use Rattle.frame.specs.Limits.{least_length, greatest_length}
use Rattle.frame.specs.Frame.{read_frame}
use Rattle.frame.specs.Write.{fields_wrong}
use Rattle.frame.specs.declared.Frame.{Frame}
use Rattle.frame.proofs.ReadsBack.{reads-back}
use Rattle.frame.proofs.Accepts.{accepts}
use Rattle.stretch.specs.Stretch.{Stretch, found, unread, clipped, most_kept}
use Rattle.kiss.proofs.Checks.{too_long, clipped-alike}
use Rattle.session.specs.Lent.{Lent}
use Rattle.session.specs.Step.{counted, refused_at, admitted, outcome}
use Rattle.session.specs.Statements.{offered}
use Rattle.session.specs.declared.Session.{Session}
use Rattle.sender.specs.Sender.{Framed, sent_octets, AllWellFormed, when, of_channel, piece_of}
use Rattle.about_delivery.specs.Link.{Fate, lost, got, Passing, Stray, Strays, arrives, loses, noise, kept, passed, arriving, fates}
use Rattle.about_delivery.specs.Expected.{FewLost}
use Rattle.about_delivery.specs.Delivered.{Delivered}
use Rattle.about_delivery.specs.Run.{reports_of}
use Rattle.about_delivery.specs.Demand.{Reception}
use Rattle.about_delivery.proofs.Recording.{demand_3}
use Rattle.about_streams.specs.Carried.{Faithful, Carries, ClippedAlike, Quiet}

-- ---- a sender's frames are kept whole

abbrev Short : List (List ℕ) → Type 0
Short [] = Unit {0}
Short (x ∷ xs) = (length x ≤ most_kept) × Short xs

pub sent-length : (t : ℕ) (f : Framed) → fields_wrong f.fields t (length f.«data») (length f.time) ≡ false
    → (least_length ≤ length (sent_octets t f)) × (length (sent_octets t f) ≤ greatest_length)
sent-length t f w =
    let r = accepts t (sent_octets t f) _ (reads-back f.fields t f.«data» f.time w).fields in
    (omega (arith, r.least), r.greatest)

short : (t : ℕ) (frames : List Framed) → AllWellFormed t frames → Short (map (sent_octets t) frames)
short t [] w = tt
short t (f ∷ fs) w = (omega (arith, (sent-length t f w.0).1), short t fs w.1)

-- ---- stretches that are refused stay refused where they are too long to be kept whole

not_accepted : (t : ℕ) (x : List ℕ) → greatest_length < length x → (read_frame t x).accepted ≡ false
not_accepted t x h =
    ap (λ (r : Told Frame). r.accepted) (too_long t x h)
    ∙ picks (λ (r : Told Frame). r.accepted ≡ false) _ _ _ (λ e. refl) (λ e. refl)

clipped_stray : (t : ℕ) (x : Stretch) → Stray t x → Stray t (clipped x)
clipped_stray t (unread n) s = s
clipped_stray t (found x) s = go (ltb most_kept (length x)) refl
  where
    go : (b : Bool) → ltb most_kept (length x) ≡ b → (read_frame t (take most_kept x)).accepted ≡ false
    go false a = ap (λ (y : List ℕ). (read_frame t y).accepted) (take_all most_kept x (ltb-false most_kept (length x) a)) ∙ s
    go true a =
        not_accepted t (take most_kept x) (omega (arith, length-take most_kept x, ltb-true most_kept (length x) a))

-- the link that leaves what a reader keeps
abbrev pub clipped_link : List Passing → List Passing
clipped_link [] = []
clipped_link (arrives ∷ link) = arrives ∷ clipped_link link
clipped_link (loses ∷ link) = loses ∷ clipped_link link
clipped_link (noise x ∷ link) = noise (clipped x) ∷ clipped_link link

clipped-strays : (t : ℕ) (link : List Passing) → Strays t link → Strays t (clipped_link link)
clipped-strays t [] s = tt
clipped-strays t (arrives ∷ link) s = clipped-strays t link s
clipped-strays t (loses ∷ link) s = clipped-strays t link s
clipped-strays t (noise x ∷ link) s = (clipped_stray t x s.0, clipped-strays t link s.1)

clipped-passed : (link : List Passing) (xs : List (List ℕ)) → Short xs → map clipped (passed link xs) ≡ passed (clipped_link link) xs
clipped-passed [] xs h = refl
clipped-passed (noise x ∷ link) xs h = ap (λ (r : List Stretch). clipped x ∷ r) (clipped-passed link xs h)
clipped-passed (arrives ∷ link) [] h = clipped-passed link [] h
clipped-passed (arrives ∷ link) (x ∷ xs) h =
    ap₂ (λ (y : List ℕ) (r : List Stretch). found y ∷ r) (take_all most_kept x h.0) (clipped-passed link xs h.1)
clipped-passed (loses ∷ link) [] h = clipped-passed link [] h
clipped-passed (loses ∷ link) (x ∷ xs) h = clipped-passed link xs h.1

-- and the frames' fates are the same
clipped-fates : (v last : ℕ) (link : List Passing) (fs : List Framed) → fates v last (clipped_link link) fs ≡ fates v last link fs
clipped-fates v last [] fs = refl
clipped-fates v last (arrives ∷ link) [] = refl
clipped-fates v last (loses ∷ link) [] = refl
clipped-fates v last (noise x ∷ link) [] = refl
clipped-fates v last (arrives ∷ link) (f ∷ fs) =
    ap (λ (ss : List Fate). when (of_channel v f) (got (last + 1) (piece_of f)) ++ ss) (clipped-fates v (last + 1) link fs)
clipped-fates v last (loses ∷ link) (f ∷ fs) =
    ap (λ (ss : List Fate). when (of_channel v f) (lost (piece_of f)) ++ ss) (clipped-fates v last link fs)
clipped-fates v last (noise x ∷ link) (f ∷ fs) = clipped-fates v (last + 1) link (f ∷ fs)

module _ (held : List ℕ → List Stretch) (Tells : List ℕ → List Stretch → Type 0) (faithful : Faithful held Tells) where
  pub told_is : (t : ℕ) (frames : List Framed) → AllWellFormed t frames → (link : List Passing) (stream : List ℕ) (told : List Stretch)
      → held stream ≡ arriving t link frames → Tells stream told → told ≡ arriving t (clipped_link link) frames
  told_is t frames formed link stream told holds tells =
      faithful stream told tells ∙ ap (map clipped) holds ∙ clipped-passed link (map (sent_octets t) frames) (short t frames formed)

pub carries : (held : List ℕ → List Stretch) (Tells : List ℕ → List Stretch → Type 0) → Faithful held Tells → Carries held Tells
carries held Tells faithful t frames sender link strays stream told holds tells o v l few =
    let same : told ≡ arriving t (clipped_link link) frames =
    told_is held Tells faithful t frames sender.well_formed link stream told holds tells in
    let fated : fates v o.last (clipped_link link) frames ≡ fates v o.last link frames = clipped-fates v o.last link frames in
    let reception : Reception =
    record {
      t = t;
      frames = frames;
      sender = sender;
      link = clipped_link link;
      strays = clipped-strays t link strays;
      time_size = o.time_size;
      last = o.last;
      opened = o.opened;
      opens = o.opens;
      calls = o.calls;
      offers = o.offers ∙ same;
      runs = o.runs;
      numbers = omega (arith, o.numbers, ap length same);
      room = o.room;
    } in
    subst (λ (ss : List Fate). Delivered (sender.streams v l).packets ss (reports_of v o.calls)) fated
    (demand_3 reception v l (subst FewLost (sym fated) few))

-- ---- what a link leaves where no stretch is refused

none_left : (link : List Passing) → Quiet link → [] ≡ passed link []
none_left [] q = refl
none_left (arrives ∷ link) q = none_left link q
none_left (loses ∷ link) q = none_left link q
none_left (noise x ∷ link) q = absurd q

pub quiet-passed : (t : ℕ) (link : List Passing) (frames : List Framed) → Quiet link
    → map found (map (sent_octets t) (kept link frames)) ≡ arriving t link frames
quiet-passed t [] frames q = refl
quiet-passed t (noise x ∷ link) frames q = absurd q
quiet-passed t (arrives ∷ link) [] q = none_left link q
quiet-passed t (arrives ∷ link) (f ∷ frames) q = ap (λ (r : List Stretch). found (sent_octets t f) ∷ r) (quiet-passed t link frames q)
quiet-passed t (loses ∷ link) [] q = none_left link q
quiet-passed t (loses ∷ link) (f ∷ frames) q = quiet-passed t link frames q

-- ---- what arrives of a sender's frames is well-formed

pub kept-formed : (t : ℕ) (link : List Passing) (frames : List Framed) → AllWellFormed t frames → AllWellFormed t (kept link frames)
kept-formed t [] frames w = tt
kept-formed t (p ∷ link) [] w = tt
kept-formed t (arrives ∷ link) (f ∷ frames) w = (w.0, kept-formed t link frames w.1)
kept-formed t (loses ∷ link) (f ∷ frames) w = kept-formed t link frames w.1
kept-formed t (noise x ∷ link) (f ∷ frames) w = kept-formed t link (f ∷ frames) w

-- ---- what is not kept changes nothing

long-outcome : (s : Session) (x : List ℕ) (l : Lent) → greatest_length < length x
    → outcome s x l ≡ admitted s l (refused_at (counted s) (read_frame s.t x).refusal (read_frame s.t x).octet)
unfolding outcome
long-outcome s x l h = ap (admitted s l) (sym (choices.passed (read_frame s.t x).accepted _ _ _ (not_accepted s.t x h) refl))

pub clipped-offer : ClippedAlike
clipped-offer s (unread n) l = refl
clipped-offer s (found x) l = go (ltb most_kept (length x)) refl
  where
    go : (b : Bool) → ltb most_kept (length x) ≡ b → offered s (found (take most_kept x)) l ≡ offered s (found x) l
    go false a = ap (λ (y : List ℕ). outcome s y l) (take_all most_kept x (ltb-false most_kept (length x) a))
    go true a =
        let h : most_kept < length x = ltb-true most_kept (length x) a in
        long-outcome s (take most_kept x) l (omega (arith, length-take most_kept x))
        ∙ ap (λ (r : Told Frame). admitted s l (refused_at (counted s) r.refusal r.octet)) (clipped-alike s.t x)
        ∙ sym (long-outcome s x l (omega arith))
