-- 9. What else is proved of a run: independence of channels, nothing lost, the bounds of a frame, the master loss, what is refused.
use Rattle.std.specs.Prelude.{ℕ, ◌+◌, ◌%◌, ◌≤◌, ◌<◌, ◌≡◌, List, [], ◌∷◌, ◌++◌, map, true, false, length, Some, None}
use Rattle.counts.specs.Loss.{Loss}
use Rattle.answer.specs.Refusals as no
use Rattle.frame.specs.Frame.{read_frame}
use Rattle.frame.specs.Limits.{longest_time}
use Rattle.rules.specs.Limits.{most_packets, most_octets, most_headers, most_sent, virtual_channels, last_number}
use Rattle.rules.specs.Packets.{bare, joined}
use Rattle.session.specs.declared.Session.{Session}
use Rattle.session.specs.declared.Opened.{Opened}
use Rattle.session.specs.Open.{Opens}
use Rattle.session.specs.Channel.{view, unsound}
use Rattle.session.specs.Step.{Gives, channel_at}
use Rattle.session.specs.Statements.{offered}
use Rattle.stretch.specs.Stretch.{Stretch, found, unread}
use Rattle.sender.specs.Sender.{Framed, when, piece_of}
use Rattle.about_delivery.specs.Link.{Passing, kept, fates, all_fates}
use Rattle.about_delivery.specs.Expected.{all_got, owners, LostAt, lost_at, expected_losses, FewLost}
use Rattle.about_delivery.specs.Delivered.{Report, handed}
use Rattle.about_delivery.specs.Run.{Call, Runs, Room, offer_of, answer_of, packets_of, reports_of}
use Rattle.about_delivery.specs.Channels.{offers_of}
use Rattle.about_delivery.specs.Channels as channels
use Rattle.about_delivery.specs.Demand.{Reception}

-- A channel's results, master loss aside, are the same in two sessions that offer it the same frames under the same arrival numbers
-- with the same t, each with enough room lent: whatever is offered to the other channels, and whatever is refused in between.
abbrev pub Independent : Type 0
Independent = (t last last' v : ℕ) (o o' : Opened) (calls calls' : List Call) → t ≤ longest_time → v < virtual_channels
    → Opens t last o → Runs o.session calls → Room calls
    → Opens t last' o' → Runs o'.session calls' → Room calls'
    → offers_of t v last (map offer_of calls) ≡ offers_of t v last' (map offer_of calls')
    → reports_of v calls ≡ reports_of v calls'

-- The same of any two sessions that refusal 4 does not hold of, in which the channel is the same.
abbrev pub IndependentFrom : Type 0
IndependentFrom = (s s' : Session) (v : ℕ) (calls calls' : List Call) → v < length s.channels → v < length s'.channels
    → unsound s ≡ false → unsound s' ≡ false → s.t ≡ s'.t → view (channel_at s v) ≡ view (channel_at s' v)
    → Runs s calls → Room calls → Runs s' calls' → Room calls'
    → offers_of s.t v s.arrival (map offer_of calls) ≡ offers_of s'.t v s'.arrival (map offer_of calls')
    → reports_of v calls ≡ reports_of v calls'

-- With none of a channel's frames lost, and all octets of its packets sent, exactly the sender's packets are handed out, once each and in
-- order.
abbrev pub NothingLost : Type 0
NothingLost = (r : Reception) (v : ℕ) (l : v < virtual_channels) → all_got (fates v r.last r.link r.frames) ≡ true
    → length (joined (r.sender.streams v l).packets) ≤ length (owners 0 (fates v r.last r.link r.frames))
    → bare (handed (reports_of v r.calls)) ≡ (r.sender.streams v l).packets

-- A call hands out at most 16 packets and 501 octets and completes at most 17 headers, whatever the session and whoever wrote the frame.
pub record Few (c : Call) : Type 0 where
  pub packets : length (bare (packets_of c)) ≤ most_packets
  pub octets : length (joined (bare (packets_of c))) ≤ most_octets
  pub headers : (answer_of c).fields.headers ≤ most_headers

abbrev pub FewEach : Type 0
FewEach = (s : Session) (c : Call) → Gives (offered s c.offer c.lent) c.result c.lent c.left → Few c

-- Of a sender by the rules, received as demand 3 says, each frame of the channel completes at most 16 headers.
abbrev pub EachFew : List Report → Type 0
EachFew [] = Unit {0}
EachFew (r ∷ rs) = (r.headers ≤ most_sent) × EachFew rs

abbrev pub FewSent : Type 0
FewSent = (r : Reception) (v : ℕ) → v < virtual_channels → FewLost (fates v r.last r.link r.frames)
    → EachFew (reports_of v r.calls)

-- The master losses that the run told, each with its arrival number.
abbrev pub master_losses : List Call → List LostAt
master_losses [] = []
master_losses (c ∷ cs) =
    when (answer_of c).accepted (lost_at (answer_of c).fields.arrival (answer_of c).fields.master) ++ master_losses cs

abbrev pub loss_modulo256 : Loss → Loss
loss_modulo256 None = None
loss_modulo256 (Some n) = Some (n % 256)

abbrev pub modulo256 : LostAt → LostAt
modulo256 l = lost_at l.arrival (loss_modulo256 l.lost)

-- The master loss is the number of frames lost since the last arrival on any channel, modulo 256; unknown at the first.
abbrev pub MasterLoss : Type 0
MasterLoss = (r : Reception) → master_losses r.calls ≡ map modulo256 (expected_losses (all_fates r.last r.link r.frames))

-- Hence that number where it is at most 255.
abbrev pub MasterLossExact : Type 0
MasterLossExact = (r : Reception) → FewLost (all_fates r.last r.link r.frames)
    → master_losses r.calls ≡ expected_losses (all_fates r.last r.link r.frames)

-- The frames that the link lets arrive are those whose fate it is to be got.
abbrev pub KeptAreGot : Type 0
KeptAreGot = (last : ℕ) (link : List Passing) (frames : List Framed)
    → map piece_of (kept link frames) ≡ map (λ (o : channels.Offer). o.frame) (channels.offered (all_fates last link frames))

-- The refusal that a call answers, 0 of an accepted frame; and the one that a stretch has of its own, whatever the session.
abbrev pub refusal_of : Call → ℕ
refusal_of c = (answer_of c).refusal

abbrev pub own_refusal : ℕ → Stretch → ℕ
own_refusal t (found x) = (read_frame t x).refusal
own_refusal t (unread n) = n

-- With numbers and room to spare, a session answers each stretch with the stretch's own refusal: what is refused is told, whatever
-- stands before it.
abbrev pub RefusalsTold : Type 0
RefusalsTold = (t last : ℕ) (o : Opened) (calls : List Call) → t ≤ longest_time → Opens t last o → Runs o.session calls → Room calls
    → last + length calls ≤ last_number → map refusal_of calls ≡ map (own_refusal t) (map offer_of calls)

-- No session that opening and steps give gets refusal 4: in any run of calls from any opening, a refused one too, whatever is offered and
-- lent, a call answers 4 only to a stretch that is turned away with 4 as its own number.
abbrev pub NoneGets4 : List Call → Type 0
NoneGets4 [] = Unit {0}
NoneGets4 (c ∷ cs) = ((answer_of c).refusal ≡ no.session → c.offer ≡ unread no.session) × NoneGets4 cs

abbrev pub StaysSound : Type 0
StaysSound = (t last : ℕ) (o : Opened) (calls : List Call) → Opens t last o → Runs o.session calls → NoneGets4 calls
