-- KISS streams.
use Rattle.std.specs.Prelude.{Ok}
use Prim.Native.Nat.{ℕ, zero, suc, ◌≤◌}
use mathlib.Core.Path.{◌≡◌, refl, sym, ap, ◌∙◌}
use mathlib.Core.Bool.{true, false, not}
use mathlib.Core.List.{List, [], ◌∷◌, ◌++◌, map, append-nil}
use mathlib.Core.Option.{Option, none, some}
use native.Mathlib.Omega.{arith}
use lib.ListN.{length, drop, replicate, length-drop, length-replicate}
use borrow.Author.Tests.{le-ltb, eq-eqb}
use Rattle.octets.proofs.Choices.{picks, picked, passed}
use Rattle.answer.specs.Told.{Told, accept}
use Rattle.answer.specs.Refusals as no
use Rattle.frame.specs.Frame.{read_frame}
use Rattle.frame.specs.declared.Frame.{Frame}
use Rattle.frame.proofs.ReadsBack.{reads-back}
use Rattle.rules.specs.Packets.{cut, total}
use Rattle.lengths.specs.Lengths.{lengths_wrong}
use Rattle.stretch.specs.Stretch.{Stretch, found, unread, clipped, most_kept}
use Rattle.kiss.specs.Stream.{unescaped, typed, stretch_of, stretches_of, inner, parted, stretches_in}
use Rattle.kiss.specs.Reader.{Standing, standing, fresh, scanned, told_by}
use Rattle.kiss.specs.Statements.{Scans, none as nothing, scan, next}
use Rattle.kiss.specs.Statements as kiss
use Rattle.kiss.proofs.Finding.{scans_find}
use Rattle.kiss.proofs.Pieces.{in_any_pieces}
use Rattle.kiss.proofs.Checks as checks
use Rattle.kiss_writer.specs.Export.{stream_of, first_bad, exporting}
use Rattle.kiss_writer.proofs.Told.{told_apart}
use Rattle.kiss_writer.proofs.Back.{calls-found-again}
use Rattle.session.specs.Lent.{Lent}
use Rattle.session.specs.Step.{Outcome, barred, accepted, outcome, turned_away}
use Rattle.session.specs.Statements.{offered}
use Rattle.session.specs.declared.Session.{Session}
use Rattle.sender.specs.Sender.{Framed, sent_octets, AllWellFormed}
use Rattle.about_delivery.specs.Link.{kept}
use Rattle.about_streams.specs.Kiss.{InPieces, KissFaithful, KissCarries, KissReadable, ExportsCarry, SentAreTaken, Each, Never11}
use Rattle.about_streams.proofs.Carried.{carries, quiet-passed, kept-formed}

pub kiss_faithful : KissFaithful
kiss_faithful stream told p =
    in_any_pieces p.kept p.pieces told p.room p.scans ∙ ap (λ (s : List ℕ). map clipped (stretches_in s)) p.whole

pub kiss_carries : KissCarries
kiss_carries = carries stretches_in InPieces kiss_faithful

-- ---- every stream can be read: in one piece, of which what is left is scanned until nothing is

record Left (a : Standing) (w : List ℕ) : Type 0 where
  told : List Stretch
  scans : Scans a (w ∷ []) told

one_more : (n : ℕ) → ((a : Standing) (w : List ℕ) → length w ≤ n → Left a w) → (a : Standing) (w : List ℕ) → length w ≤ suc n → Left a w
one_more n ih a [] h = record { told = []; scans = next nothing }
one_more n ih a (x ∷ w) h =
    let used : ℕ = (scanned a (x ∷ w)).used in
    let fewer : length (drop used (x ∷ w)) ≤ n = omega (arith, length-drop used (x ∷ w), (scans_find a (x ∷ w)).some (omega arith)) in
    let rest : Left (scanned a (x ∷ w)).standing (drop used (x ∷ w)) = ih (scanned a (x ∷ w)).standing (drop used (x ∷ w)) fewer in
    record { told = told_by (scanned a (x ∷ w)) ++ rest.told; scans = scan rest.scans }

read-on : (n : ℕ) (a : Standing) (w : List ℕ) → length w ≤ n → Left a w
read-on zero a [] h = record { told = []; scans = next nothing }
read-on zero a (x ∷ w) h = absurd (omega arith)
read-on (suc n) a w h = one_more n (read-on n) a w h

pub kiss_readable : KissReadable
kiss_readable stream =
    let kept : List ℕ = replicate most_kept 0 in
    let r : Left (standing fresh kept) stream = read-on (length stream) (standing fresh kept) stream (omega arith) in
    record {
      told = r.told;
      tells = record {
        kept = kept;
        room = length-replicate {A = ℕ} most_kept 0;
        pieces = stream ∷ [];
        whole = append-nil stream;
        scans = r.scans;
      };
    }

-- ---- what an export leaves

pub exports_carry : ExportsCarry
exports_carry t frames link q octets lengths out n out' small e x =
    (calls-found-again t octets lengths out n out' small x).whole ∙ ap (map found) e ∙ quiet-passed t link frames q

-- ---- a sender's frames are taken

none-bad : (t : ℕ) (fs : List Framed) → AllWellFormed t fs → (first_bad t (map (sent_octets t) fs)).accepted ≡ true
unfolding first_bad
none-bad t [] w = refl
none-bad t (f ∷ fs) w =
    let accepted : (read_frame t (sent_octets t f)).accepted ≡ true =
    ap (λ (r : Told Frame). r.accepted) (reads-back f.fields t f.«data» f.time w.0).fields in
    ap (λ (r : Told ℕ). r.accepted) (sym (picked _ _ _ accepted)) ∙ none-bad t fs w.1

pub sent_are_taken : SentAreTaken
unfolding exporting
sent_are_taken t short frames s link octets lengths out r out' adds e room x =
    let good : (first_bad t (cut octets lengths)).accepted ≡ true =
    ap (λ (fs : List (List ℕ)). (first_bad t fs).accepted) e ∙ none-bad t (kept link frames) (kept-formed t link frames s.well_formed) in
    let right : lengths_wrong lengths (length octets) ≡ false = ap not (eq-eqb (total lengths) (length octets) adds) in
    let says : accept (length (stream_of (cut octets lengths))) ≡ exporting t octets lengths out =
    passed _ _ _ _ (le-ltb _ _ short)
    (passed _ _ _ _ right (passed _ _ _ _ (le-ltb _ _ room) refl ∙ picked _ _ _ good)) in
    told_apart r (Ok (length (stream_of (cut octets lengths)))) (x.answers ∙ sym says)

-- ---- 11

abbrev Other : ℕ → Stretch → Type 0
Other t (found x) = (read_frame t x).refusal ≡ no.frame_check → ⊥
Other t (unread n) = n ≡ no.frame_check → ⊥

-- a stretch that is refused before any frame could be read gets 18 or 19
abbrev Unread : Stretch → Type 0
Unread (found x) = Unit {0}
Unread (unread n) = n ≡ no.frame_check → ⊥

each_append : (xs ys : List Stretch) → Each Unread xs → Each Unread ys → Each Unread (xs ++ ys)
each_append [] ys h k = k
each_append (x ∷ xs) ys h k = (h.0, each_append xs ys h.1 k)

typed-unread : (o : Option (List ℕ)) → Each Unread (typed o)
typed-unread none = ((λ e. omega arith), tt)
typed-unread (some []) = tt
typed-unread (some (t ∷ f)) = picks (λ (s : Stretch). Each Unread (s ∷ [])) _ _ _ (λ h. (tt, tt)) (λ h. ((λ e. omega arith), tt))

all-unread : (ps : List (List ℕ)) → Each Unread (stretches_of ps)
all-unread [] = tt
all-unread (p ∷ ps) = each_append (stretch_of p) (stretches_of ps) (typed-unread (unescaped p)) (all-unread ps)

stream_unread : (s : List ℕ) → Each Unread (stretches_in s)
unfolding stretches_in
stream_unread s = all-unread (inner (parted s))

others : (t : ℕ) (xs : List Stretch) → Each Unread xs → kiss.Each (λ x. (read_frame t x).refusal ≡ no.frame_check → ⊥) (map clipped xs)
    → Each (Other t) (map clipped xs)
others t [] h k = tt
others t (found x ∷ xs) h k = (k.0, others t xs h.1 k.1)
others t (unread n ∷ xs) h k = (h.0, others t xs h.1 k)

-- 1, 4 and 3 are no 11
barred-other : (s : Session) (l : Lent) → barred s l ≡ no.frame_check → ⊥
unfolding barred
barred-other s l =
    picks (λ (n : ℕ). n ≡ no.frame_check → ⊥) _ _ _ (λ e h. omega arith)
    (λ e. picks (λ (n : ℕ). n ≡ no.frame_check → ⊥) _ _ _ (λ e h. omega arith)
    (λ e. picks (λ (n : ℕ). n ≡ no.frame_check → ⊥) _ _ _ (λ e h. omega arith) (λ e h. omega arith)))

offer-other : (s : Session) (l : Lent) (x : Stretch) → Other s.t x → (offered s x l).answer.refusal ≡ no.frame_check → ⊥
unfolding outcome turned_away accepted
offer-other s l (found x) h =
    picks (λ (o : Outcome). o.answer.refusal ≡ no.frame_check → ⊥) _ _ _
    (λ e. picks (λ (o : Outcome). o.answer.refusal ≡ no.frame_check → ⊥) _ _ _ (λ e k. omega arith) (λ e. h)) (λ e. barred-other s l)
offer-other s l (unread n) h = picks (λ (o : Outcome). o.answer.refusal ≡ no.frame_check → ⊥) _ _ _ (λ e. h) (λ e. barred-other s l)

each-offer : (s : Session) (l : Lent) (xs : List Stretch) → Each (Other s.t) xs
    → Each (λ x. (offered s x l).answer.refusal ≡ no.frame_check → ⊥) xs
each-offer s l [] h = tt
each-offer s l (x ∷ xs) h = (offer-other s l x h.0, each-offer s l xs h.1)

pub never_11 : Never11
never_11 s l stream =
    each-offer s l (map clipped (stretches_in stream))
    (others s.t (stretches_in stream) (stream_unread stream) (checks.never_11 s.t stream))
