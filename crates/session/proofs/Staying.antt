-- A session that refusal 4 does not hold of is followed by such sessions: no session that opening and steps give gets it.
use Prim.Native.Nat.{ℕ, zero, suc, ◌-◌, ◌≤◌}
use native.Mathlib.Omega.{arith}
use mathlib.Core.Path.{◌≡◌, refl, sym, ◌∙◌}
use mathlib.Core.Bool.{true, false}
use mathlib.Core.Option.{Option, none, some}
use mathlib.Core.List.{List, [], ◌∷◌}
use lib.ListN.{length, get_or, set, replicate, length-set}
use lib.Seq.{take-append_seam}
use lib.Dec.{ltb}
use borrow.Author.Tests.{le-ltb, ltb-false}
use Rattle.octets.proofs.Choices.{picks}
use Rattle.octets.proofs.Tests.{or_left, or_right}
use Rattle.answer.specs.Refusals as no
use Rattle.counts.specs.Lost.{last_of}
use Rattle.frame.specs.Frame.{data_of, read_frame}
use Rattle.frame.specs.declared.Frame.{Frame}
use Rattle.frame.proofs.Accepts.{accepts}
use Rattle.frame.proofs.Tells.{read-tells}
use Rattle.rules.specs.Channel as rules
use Rattle.rules.specs.Bounds.{Sound, Bounded}
use Rattle.rules.proofs.Bounds.{fresh-sound, passing-sound, sound-passing}
use Rattle.rules.proofs.Room.{step_bounded}
use Rattle.session.specs.Channel.{heard_of, count_of, view, stored, fresh, channel_unsound, any_unsound, unsound}
use Rattle.session.specs.Lent.{Lent}
use Rattle.session.specs.Open.{Opening, opened, opening}
use Rattle.session.specs.Step.{Outcome, refused_at, counted, channel_at, piece_of, ruled, accepted, heeded, outcome, turned_away}
use Rattle.stretch.specs.Stretch.{Stretch, found, unread}
use Rattle.session.specs.Statements.{offered}
use Rattle.session.specs.declared.Channel.{Channel}
use Rattle.session.specs.declared.Session.{Session}
use Rattle.session.proofs.Admitting.{admitted_picks, not_four}

-- ---- a channel that is stored is seen again as it was

last_seen : (l : Option ℕ) → last_of (heard_of l) (count_of l) ≡ l
last_seen none = refl
last_seen (some n) = refl

pub view-stored : (c : rules.Channel) → view (stored c) ≡ c
unfolding view stored
view-stored c = simp (last_seen, take-append_seam)

-- ---- channels that refusal 4 does not hold of

stored-sound : (c : rules.Channel) → Sound c.in_step c.held.octets → channel_unsound (stored c) ≡ false
unfolding stored
stored-sound c s = sound-passing c.in_step c.held.octets (replicate (250 - length c.held.octets) 0) s

pub fresh-passes : channel_unsound fresh ≡ false
fresh-passes = stored-sound rules.fresh fresh-sound

channel-passes : (cs : List Channel) (i : ℕ) → any_unsound cs ≡ false → channel_unsound (get_or cs i fresh) ≡ false
channel-passes [] i e = fresh-passes
channel-passes (c ∷ cs) zero e = or_left (channel_unsound c) (any_unsound cs) e
channel-passes (c ∷ cs) (suc i) e = channel-passes cs i (or_right (channel_unsound c) (any_unsound cs) e)

channels_pass : (s : Session) → unsound s ≡ false → any_unsound s.channels ≡ false
unfolding unsound
channels_pass s u = or_right (ltb 8 s.t) (any_unsound s.channels) u

channel-sound : (s : Session) (i : ℕ) → unsound s ≡ false → Sound (view (channel_at s i)).in_step (view (channel_at s i)).held.octets
unfolding view
channel-sound s i u =
    passing-sound (channel_at s i).instep (channel_at s i).length (channel_at s i).held (channel-passes s.channels i (channels_pass s u))

-- what the rules keep to, whatever the frame
pub ruled_bounded : (s : Session) (f : Frame) (d : List ℕ) → unsound s ≡ false → length d ≤ 251 → Bounded (ruled s f d)
unfolding ruled
ruled_bounded s f d u l = step_bounded s.arrival (view (channel_at s f.channel)) (piece_of f d) (channel-sound s f.channel u) l

any_set : (cs : List Channel) (i : ℕ) (c : Channel) → any_unsound cs ≡ false → channel_unsound c ≡ false → any_unsound (set cs i c) ≡ false
any_set [] i c e h = refl
any_set (x ∷ cs) zero c e h = rw (h, or_right (channel_unsound x) (any_unsound cs) e)
any_set (x ∷ cs) (suc i) c e h =
    rw (or_left (channel_unsound x) (any_unsound cs) e, any_set cs i c (or_right (channel_unsound x) (any_unsound cs) e) h)

-- ---- an opening

pub opened-sound : (t last : ℕ) → t ≤ 8 → unsound (opened t last) ≡ false
unfolding unsound
opened-sound t last l = simp (le-ltb _ _ l, fresh-passes)

pub opening-sound : (t last : ℕ) → unsound (opening t last).session ≡ false
unfolding opening
opening-sound t last =
    picks (λ (o : Opening). unsound o.session ≡ false) _ _ _ (λ e. opened-sound 0 0 (omega arith))
    (λ e. opened-sound t last (ltb-false _ _ e))

-- ---- a step

-- an outcome of s that refusal 4 does not hold of, with as many channels
pub record Stays (s : Session) (o : Outcome) : Type 0 where
  pub sound : unsound o.session ≡ false
  pub channels : length o.session.channels ≡ length s.channels

pub counted-sound : (s : Session) → unsound s ≡ false → unsound (counted s) ≡ false
unfolding unsound
counted-sound s u = u

refused-stays : (s : Session) (n octet : ℕ) → unsound s ≡ false → Stays s (refused_at s n octet)
refused-stays s n octet u = record { sound = u; channels = refl }

counted-stays : (s : Session) (o : Outcome) → Stays (counted s) o → Stays s o
counted-stays s o w = record { sound = w.sound; channels = w.channels }

accepted-stays : (s : Session) (f : Frame) (d : List ℕ) → unsound s ≡ false → length d ≤ 251 → Stays s (accepted s f d)
unfolding unsound accepted
accepted-stays s f d u l =
    let next = any_set s.channels f.channel (stored (ruled s f d).next) (channels_pass s u)
    (stored-sound (ruled s f d).next (ruled_bounded s f d u l).sound) in
    record { sound = rw (or_left (ltb 8 s.t) (any_unsound s.channels) u, next); channels = length-set s.channels f.channel _ }

-- a frame that the reader accepts has at most 251 octets of data
pub few-read : (t : ℕ) (s : List ℕ) → (read_frame t s).accepted ≡ true → length (data_of (read_frame t s).fields s) ≤ 251
few-read t s e = let w = accepts t s _ ((read-tells t s).plain e) in omega (arith, w.«data», w.few)

heeded-stays : (s : Session) (frame : List ℕ) → unsound s ≡ false → Stays s (heeded s frame (read_frame s.t frame))
heeded-stays s frame u =
    picks (Stays s) (read_frame s.t frame).accepted _ _
    (λ a. accepted-stays s (read_frame s.t frame).fields _ u (few-read s.t frame a))
    (λ a. refused-stays s _ _ u)

pub step_stays : (s : Session) (frame : List ℕ) (l : Lent) → unsound s ≡ false → Stays s (outcome s frame l)
unfolding outcome
step_stays s frame l u =
    admitted_picks (Stays s) s l _ (λ a. counted-stays s _ (heeded-stays (counted s) frame (counted-sound s u)))
    (λ n e. refused-stays s n 0 u)

pub offer-stays : (s : Session) (x : Stretch) (l : Lent) → unsound s ≡ false → Stays s (offered s x l)
unfolding turned_away
offer-stays s (found x) l u = step_stays s x l u
offer-stays s (unread n) l u =
    admitted_picks (Stays s) s l _ (λ a. counted-stays s _ (refused-stays (counted s) n 0 (counted-sound s u)))
    (λ m e. refused-stays s m 0 u)

-- ---- the answer

-- no refusal 4
abbrev Other : Outcome → Type 0
Other o = o.answer.refusal ≡ no.session → ⊥

heeded-other : (s : Session) (frame : List ℕ) → Other (heeded s frame (read_frame s.t frame))
unfolding accepted
heeded-other s frame =
    picks Other (read_frame s.t frame).accepted (accepted s _ _) (refused_at s _ _) (λ a h. omega arith)
    (λ a. (read-tells s.t frame).other)

pub sound-answers : (s : Session) (frame : List ℕ) (l : Lent) → unsound s ≡ false → Other (outcome s frame l)
unfolding outcome
sound-answers s frame l u =
    admitted_picks Other s l _ (λ a. heeded-other (counted s) frame) (λ n e h. not_four s l u (sym e ∙ h))
