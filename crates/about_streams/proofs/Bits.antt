-- Recordings of raw bits.
use Prim.Native.Nat.{ℕ, zero, suc, ◌≤◌}
use mathlib.Core.Path.{◌≡◌, refl, sym, ap, subst, ◌∙◌}
use mathlib.Core.Bool.{false}
use mathlib.Core.List.{List, [], ◌∷◌, ◌++◌, map, append-nil, append_assoc}
use native.Mathlib.Omega.{arith}
use lib.ListN.{length, take, drop, replicate, length-take, length-drop, length-replicate, take-append-drop}
use borrow.Author.Tests.{le-ltb, eq-eqb}
use Rattle.answer.proofs.Writer.{gives}
use Rattle.frame.specs.Limits.{least_length, greatest_length}
use Rattle.rules.specs.Packets.{cut, total}
use Rattle.sender.specs.Sender.{Framed, sent_octets, AllWellFormed}
use Rattle.about_delivery.specs.Link.{kept}
use Rattle.stretch.specs.Stretch.{Stretch, found, most_kept}
use Rattle.rawbits.specs.Recording.{stretches_in}
use Rattle.rawbits.specs.Reader.{Standing, standing, fresh, scanned}
use Rattle.rawbits.specs.Finding.{Scans, none, more}
use Rattle.rawbits.proofs.Finding.{scans_find, pieces_give_the_whole}
use Rattle.rawbits_writer.proofs.Back.{calls-found-again}
use Rattle.rawbits_writer.specs.Stream.{outside, any_outside, frames_wrong, stream_of}
use Rattle.about_streams.specs.Carried.{Read}
use Rattle.about_streams.specs.Bits.{Scanned, BitsFaithful, BitsCarries, BitsReadable, WrittenCarry, SentAreTaken}
use Rattle.about_streams.proofs.Carried.{carries, quiet-passed, sent-length, kept-formed}

pub bits_faithful : BitsFaithful
bits_faithful stream told p = pieces_give_the_whole stream told p.stands p.scans

pub bits-carries : BitsCarries
bits-carries = carries stretches_in Scanned bits_faithful

-- ---- every stream can be read: what is left is scanned until nothing is

abbrev ReadOn : ℕ → Type 0
ReadOn n = (s : List ℕ) (told : List Stretch) (a : Standing) → Scans s told a → (w : List ℕ) → length w ≤ n → Read Scanned (s ++ w)

all_read : (s : List ℕ) (told : List Stretch) (a : Standing) → Scans s told a → Read Scanned (s ++ [])
all_read s told a x =
    record { told = told; tells = record { stands = a; scans = subst (λ (r : List ℕ). Scans r told a) (sym (append-nil s)) x } }

one_more : (n : ℕ) → ReadOn n → ReadOn (suc n)
one_more n ih s told a x [] h = all_read s told a x
one_more n ih s told a x (b ∷ w) h =
    let used : ℕ = (scanned a (b ∷ w)).used in
    let fewer : length (drop used (b ∷ w)) ≤ n = omega (arith, length-drop used (b ∷ w), (scans_find a (b ∷ w)).some (omega arith)) in
    let same : (s ++ take used (b ∷ w)) ++ drop used (b ∷ w) ≡ s ++ (b ∷ w) =
    append_assoc s (take used (b ∷ w)) (drop used (b ∷ w)) ∙ ap (λ (r : List ℕ). s ++ r) (take-append-drop used (b ∷ w)) in
    subst (Read Scanned) same (ih _ _ _ (more x (b ∷ w)) (drop used (b ∷ w)) fewer)

read-on : (n : ℕ) → ReadOn n
read-on zero s told a x [] h = all_read s told a x
read-on zero s told a x (b ∷ w) h = absurd (omega arith)
read-on (suc n) s told a x w h = one_more n (read-on n) s told a x w h

pub bits-readable : BitsReadable
bits-readable stream =
    read-on (length stream) [] [] (standing fresh (replicate most_kept 0)) (none (length-replicate {A = ℕ} most_kept 0)) stream (omega arith)

pub written_carry : WrittenCarry
written_carry t frames link q octets lengths out n out' small e x =
    (calls-found-again octets lengths out n out' small x).whole ∙ ap (map found) e ∙ quiet-passed t link frames q

-- ---- a sender's frames are taken

not_outside : (n : ℕ) → least_length ≤ n → n ≤ greatest_length → outside n ≡ false
not_outside n l g = simp (le-ltb n least_length l, le-ltb greatest_length n g)

none-outside : (t : ℕ) (fs : List Framed) → AllWellFormed t fs → (d ns : List ℕ)
    → total ns ≡ length d → cut d ns ≡ map (sent_octets t) fs → any_outside ns ≡ false
none-outside t fs w d [] a e = refl
none-outside t [] w d (n ∷ ns) a e = let z : ◌≡◌ {A = ℕ} 0 1 = cc in absurd (omega arith)
none-outside t (f ∷ fs) w d (n ∷ ns) a e =
    let h : take n d ≡ sent_octets t f = cc in
    let r : cut (drop n d) ns ≡ map (sent_octets t) fs = cc in
    let l = sent-length t f w.0 in
    let m : n ≡ length (sent_octets t f) = omega (arith, ap length h, length-take n d) in
    let others : any_outside ns ≡ false = none-outside t fs w.1 (drop n d) ns (omega (arith, length-drop n d)) r in
    simp (not_outside n (omega (arith, m, l.0)) (omega (arith, m, l.1)), others)

pub sent_are_taken : SentAreTaken
sent_are_taken t frames s link octets lengths out r out' a e room w =
    let none = none-outside t (kept link frames) (kept-formed t link frames s.well_formed) octets lengths a e in
    let right : frames_wrong octets lengths ≡ false = simp (none, eq-eqb (total lengths) (length octets) a) in
    (gives (frames_wrong octets lengths) (stream_of (cut octets lengths)) out r out' right room w).answers
