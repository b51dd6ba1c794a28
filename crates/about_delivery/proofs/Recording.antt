-- A whole recording: what the sender wrote and the link left, offered to the session.
use mathlib.Core.Path.{◌≡◌, refl, sym, ap, ◌∙◌, subst}
use mathlib.Core.List.{List, [], ◌∷◌, ◌++◌, map}
use mathlib.Core.Bool.{Bool, true, false}
use Prim.Native.Nat.{ℕ, ◌+◌, ◌≤◌, ◌<◌}
use native.Mathlib.Omega.{arith}
use lib.ListN.{length}
use borrow.Author.Tests.{le-ltb, ne_eqb}
use Rattle.octets.specs.Pick.{pick}
use Rattle.frame.specs.Back.{ReadBack}
use Rattle.frame.proofs.ReadsBack.{reads-back}
use Rattle.frame.proofs.Accepts.{accepts}
use Rattle.rules.specs.Limits.{last_number}
use Rattle.rules.specs.Channel as rules
use Rattle.session.specs.declared.Session.{Session}
use Rattle.session.specs.declared.Opened.{Opened}
use Rattle.session.specs.Channel.{view}
use Rattle.session.specs.Step.{channel_at}
use Rattle.stretch.specs.Stretch.{Stretch, found, unread}
use Rattle.session.specs.Open.{opened, opening, Opens}
use Rattle.session.proofs.Staying.{opened-sound}
use Rattle.sender.specs.Sender.{Framed, sent_octets, AllWellFormed, when, of_channel, piece_of, pieces_of, Stream}
use Rattle.about_delivery.specs.Link.{Fate, lost, got, Passing, Stray, Strays, arrives, loses, noise, arriving, fates}
use Rattle.about_delivery.specs.Expected.{piece, FewLost}
use Rattle.about_delivery.specs.Delivered.{Delivered}
use Rattle.about_delivery.specs.Run.{Call, Runs, Room, offer_of, reports_of}
use Rattle.about_delivery.specs.Channels.{Offer, offered, run, read_offer, offer_for, offers_of}
use Rattle.about_delivery.specs.Demand.{Reception, Demand3}
use Rattle.about_delivery.specs.Further.{Independent, IndependentFrom, EachFew, FewSent}
use Rattle.about_delivery.proofs.OneChannel.{AllShort, delivery, few-headers}
use Rattle.about_delivery.proofs.Calls.{fresh_viewed}
use Rattle.about_delivery.proofs.Projection.{numbered, projects}

-- ---- fates

when-pieces : (b : Bool) (p : rules.Piece) (s : Fate) (ss : List Fate) → piece s ≡ p → map piece (when b s ++ ss) ≡ when b p ++ map piece ss
when-pieces true p s ss e = ap (λ (q : rules.Piece). q ∷ map piece ss) e
when-pieces false p s ss e = refl

-- the fates are the frames'
pub fates-pieces : (v last : ℕ) (link : List Passing) (fs : List Framed) → map piece (fates v last link fs) ≡ pieces_of v fs
fates-pieces v last link [] = refl
fates-pieces v last [] (f ∷ fs) =
    when-pieces (of_channel v f) (piece_of f) (lost (piece_of f)) (fates v last [] fs) refl
    ∙ ap (λ (l : List rules.Piece). when (of_channel v f) (piece_of f) ++ l) (fates-pieces v last [] fs)
fates-pieces v last (arrives ∷ link) (f ∷ fs) =
    when-pieces (of_channel v f) (piece_of f) (got (last + 1) (piece_of f)) (fates v (last + 1) link fs) refl
    ∙ ap (λ (l : List rules.Piece). when (of_channel v f) (piece_of f) ++ l) (fates-pieces v (last + 1) link fs)
fates-pieces v last (noise n ∷ link) (f ∷ fs) = fates-pieces v (last + 1) link (f ∷ fs)
fates-pieces v last (loses ∷ link) (f ∷ fs) =
    when-pieces (of_channel v f) (piece_of f) (lost (piece_of f)) (fates v last link fs) refl
    ∙ ap (λ (l : List rules.Piece). when (of_channel v f) (piece_of f) ++ l) (fates-pieces v last link fs)

offered-lost : (b : Bool) (p : rules.Piece) (ss : List Fate) → offered (when b (lost p) ++ ss) ≡ offered ss
offered-lost true p ss = refl
offered-lost false p ss = refl

offered-got : (b : Bool) (a : ℕ) (p : rules.Piece) (ss : List Fate) → offered (when b (got a p) ++ ss) ≡ when b
    (record { arrival = a; frame = p }) ++ offered ss
offered-got true a p ss = refl
offered-got false a p ss = refl

short-when : (b : Bool) (p : rules.Piece) (ps : List rules.Piece) → length p.octets ≤ 251 → AllShort ps → AllShort (when b p ++ ps)
short-when true p ps l s = (l, s)
short-when false p ps l s = s

-- ---- by demand 2, what is offered is what was sent and kept

module _ (t : ℕ) where
  pub all_short : (v : ℕ) (fs : List Framed) → AllWellFormed t fs → AllShort (pieces_of v fs)
  all_short v [] w = tt
  all_short v (f ∷ fs) w =
      let r = reads-back f.fields t f.«data» f.time w.0 in
      let a = accepts t (sent_octets t f) f.fields r.fields in
      short-when (of_channel v f) (piece_of f) (pieces_of v fs) (omega (arith, a.few, a.«data», ap length r.«data»))
      (all_short v fs w.1)

  offer-is : (v a : ℕ) (f : Framed) → ReadBack f.fields t f.«data» f.time
      → offer_for t v a (found (sent_octets t f)) ≡ when (of_channel v f) (record { arrival = a; frame = piece_of f })
  offer-is v a f r =
      ap (read_offer v a (sent_octets t f)) r.fields
      ∙ ap (λ (d : List ℕ). when (of_channel v f) (offer d)) r.«data»
    where
      offer : List ℕ → Offer
      offer d = record { arrival = a; frame = record { count = f.fields.count.0; pointer = f.fields.pointer; octets = d } }

  -- what is none of the sender's is for no channel
  stray_none : (v a : ℕ) (x : Stretch) → Stray t x → offer_for t v a x ≡ []
  stray_none v a (found x) e = rw e
  stray_none v a (unread n) e = refl

  stray_passes : (v last : ℕ) (x : Stretch) (xs : List Stretch) → Stray t x → last < last_number
      → offers_of t v last (x ∷ xs) ≡ offers_of t v (last + 1) xs
  stray_passes v last x xs st k =
      numbered t v last x xs (ne_eqb last last_number (λ e. omega arith))
      ∙ ap (λ (l : List Offer). l ++ offers_of t v (last + 1) xs) (stray_none v (last + 1) x st)

  offers-fates : (v last : ℕ) (link : List Passing) (fs : List Framed) → Strays t link → AllWellFormed t fs
      → last + length (arriving t link fs) ≤ last_number → offers_of t v last (arriving t link fs) ≡ offered (fates v last link fs)
  offers-fates v last [] [] st w n = refl
  offers-fates v last [] (f ∷ fs) st w n =
      offers-fates v last [] fs st w.1 n ∙ sym (offered-lost (of_channel v f) (piece_of f) (fates v last [] fs))
  offers-fates v last (noise x ∷ link) [] st w n =
      stray_passes v last x (arriving t link []) st.0 (omega arith) ∙ offers-fates v (last + 1) link [] st.1 w (omega arith)
  offers-fates v last (noise x ∷ link) (f ∷ fs) st w n =
      stray_passes v last x (arriving t link (f ∷ fs)) st.0 (omega arith)
      ∙ offers-fates v (last + 1) link (f ∷ fs) st.1 w (omega arith)
  offers-fates v last (arrives ∷ link) [] st w n = offers-fates v last link [] st w n
  offers-fates v last (loses ∷ link) [] st w n = offers-fates v last link [] st w n
  offers-fates v last (loses ∷ link) (f ∷ fs) st w n =
      offers-fates v last link fs st w.1 n ∙ sym (offered-lost (of_channel v f) (piece_of f) (fates v last link fs))
  offers-fates v last (arrives ∷ link) (f ∷ fs) st w n =
      let r = reads-back f.fields t f.«data» f.time w.0 in
      numbered t v last (found (sent_octets t f)) (arriving t link fs) (ne_eqb last last_number (λ e. omega arith))
      ∙ ap (λ (l : List Offer). l ++ offers_of t v (last + 1) (arriving t link fs)) (offer-is v (last + 1) f r)
      ∙ ap (λ (l : List Offer). when (of_channel v f) (record { arrival = last + 1; frame = piece_of f }) ++ l)
      (offers-fates v (last + 1) link fs st w.1 (omega arith))
      ∙ sym (offered-got (of_channel v f) (last + 1) (piece_of f) (fates v (last + 1) link fs))

-- ---- from the opening on

opening-is : (t last : ℕ) → t ≤ 8 → (opening t last).session ≡ opened t last
unfolding opening pick
opening-is t last l = rw (le-ltb 8 t l)

pub opened-runs : (t last : ℕ) → t ≤ 8 → (o : Opened) → Opens t last o → (calls : List Call) → Runs o.session calls → Runs
    (opened t last) calls
opened-runs t last k o h calls w = subst (λ (z : Session). Runs z calls) (h.session ∙ opening-is t last k) w

-- a run from an opening, for channel v
pub from-opening : (t last v : ℕ) → t ≤ 8 → v < 8 → (o : Opened) → Opens t last o → (calls : List Call) → Runs o.session calls
    → Room calls
    → reports_of v calls ≡ run rules.fresh (offers_of t v last (map offer_of calls))
from-opening t last v k l o h calls w room =
    projects t v calls (opened t last) (record { sound = opened-sound t last k; time = refl; there = l })
    (opened-runs t last k o h calls w) room
    ∙ ap (λ (c : rules.Channel). run c (offers_of t v last (map offer_of calls))) (fresh_viewed v l)

pub independent : Independent
independent t last last' v o o' calls calls' k l h w room h' w' room' e =
    from-opening t last v k l o h calls w room
    ∙ ap (run rules.fresh) e
    ∙ sym (from-opening t last' v k l o' h' calls' w' room')

pub independent_from : IndependentFrom
independent_from s s' v calls calls' l l' u u' t c w room w' room' e =
    projects s.t v calls s (record { sound = u; time = refl; there = l }) w room
    ∙ ap (run (view (channel_at s v))) e
    ∙ ap (λ (z : rules.Channel). run z (offers_of s'.t v s'.arrival (map offer_of calls'))) c
    ∙ sym (projects s'.t v calls' s' (record { sound = u'; time = refl; there = l' }) w' room')

-- what calls from an opening say of a channel, well-formed frames having been offered to them
pub frames-said : (t last v : ℕ) → t ≤ 8 → v < 8 → (o : Opened) → Opens t last o → (calls : List Call) → Runs o.session calls
    → Room calls
    → (link : List Passing) → Strays t link → (frames : List Framed) → AllWellFormed t frames → map offer_of calls ≡ arriving t link frames
    → last + length (arriving t link frames) ≤ last_number → reports_of v calls ≡ run rules.fresh (offered (fates v last link frames))
frames-said t last v k l o h calls w room link st frames well e n =
    from-opening t last v k l o h calls w room
    ∙ ap (λ (xs : List Stretch). run rules.fresh (offers_of t v last xs)) e
    ∙ ap (run rules.fresh) (offers-fates t v last link frames st well n)

module _ (r : Reception) (v : ℕ) (l : v < 8) where
  abbrev ss : List Fate
  ss = fates v r.last r.link r.frames

  abbrev stream : Stream v r.frames
  stream = r.sender.streams v l

  pub said-is : reports_of v r.calls ≡ run rules.fresh (offered ss)
  said-is =
      frames-said r.t r.last v r.time_size l r.opened r.opens r.calls r.runs r.room r.link r.strays r.frames
      r.sender.well_formed r.offers r.numbers

  pieces : map piece ss ≡ pieces_of v r.frames
  pieces = fates-pieces v r.last r.link r.frames

  short : AllShort (map piece ss)
  short = subst AllShort (sym pieces) (all_short r.t v r.frames r.sender.well_formed)

  pub delivered : FewLost ss → Delivered stream.packets ss (reports_of v r.calls)
  delivered gaps =
      subst (Delivered stream.packets ss) (sym said-is)
      (delivery stream.packets stream.choices stream.first ss stream.good stream.small (pieces ∙ stream.sent) short gaps)

  pub light : FewLost ss → EachFew (reports_of v r.calls)
  light gaps =
      subst EachFew (sym said-is)
      (few-headers stream.packets stream.choices stream.first ss stream.good stream.small (pieces ∙ stream.sent) short gaps)

pub demand_3 : Demand3
demand_3 r v l gaps = delivered r v l gaps

pub few-sent : FewSent
few-sent r v l gaps = light r v l gaps
