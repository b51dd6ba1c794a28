-- 5. Statements over the calls `send` and `empty`, for any results that satisfy their promises.
use Rattle.std.specs.Prelude.{◌≡◌, ℕ, ◌+◌, ◌<◌, ◌≤◌, cond, List, [], ◌∷◌, ◌++◌, map, length, take, replicate, ◌==◌, Ok}
use Rattle.rules.specs.Limits.{virtual_channels}
use Rattle.rules.specs.Packets.{joined, cut}
use Rattle.sender.specs.Stream.{Choice, raw, next}
use Rattle.sender.specs.Sender.{Framed, sent_octets, Sender}
use Rattle.sender.specs.Frames.{Wanted, packets_of, empty_frame, frames_of}
use Rattle.sender.specs.Send.{Lent, observed, sending, Emptied}
use Rattle.sender.specs.declared.Common.{Common}
use Rattle.sender.specs.declared.Sent.{Sent}

-- A call of `send`: what was wanted, what was lent and as it was left, and what was answered.
pub record SendCall : Type 0 where
  pub wanted : Wanted
  pub lent : Lent
  pub sent : Sent
  pub left : Lent

-- A call of `empty`.
pub record EmptyCall : Type 0 where
  pub common : Common
  pub master : ℕ
  pub count : ℕ
  pub time : List ℕ
  pub lent : List ℕ
  pub sent : Sent
  pub left : List ℕ

pub data Call : Type 0 where
  sends : SendCall → Call
  empties : EmptyCall → Call

-- It was accepted, and did what is promised.
abbrev pub Does : Call → Type 0
Does (sends c) = observed (Ok c.sent) c.left.octets c.left.lengths ≡ sending c.wanted c.lent
Does (empties c) = Emptied c.common c.master c.count c.time c.lent (Ok c.sent) c.left

abbrev pub common_of : Call → Common
common_of (sends c) = c.wanted.common
common_of (empties c) = c.common

-- Both starting counts, and what was answered.
abbrev pub master_of : Call → ℕ
master_of (sends c) = c.wanted.master
master_of (empties c) = c.master

abbrev pub count_of : Call → ℕ
count_of (sends c) = c.wanted.count
count_of (empties c) = c.count

abbrev pub sent_by : Call → Sent
sent_by (sends c) = c.sent
sent_by (empties c) = c.sent

-- The frames that a caller finds in what was lent, by what was answered.
abbrev pub left_by : Call → List (List ℕ)
left_by (sends c) = cut c.left.octets (take c.sent.frames c.left.lengths)
left_by (empties c) = take c.sent.octets c.left ∷ []

-- The frames and the packets of a call.
abbrev pub made_by : Call → List Framed
made_by (sends c) = frames_of c.wanted
made_by (empties c) = empty_frame c.common c.time c.master c.count ∷ []

abbrev pub packets_by : Call → List (List ℕ)
packets_by (sends c) = packets_of c.wanted
packets_by (empties c) = []

-- ---- several calls, on any channels

-- What each of them gives, one after another.
abbrev pub over_all : {A : Type 0} → (Call → List A) → List Call → List A
over_all f [] = []
over_all f (c ∷ cs) = f c ++ over_all f cs

-- The packets of those on channel v.
abbrev pub packets_on : ℕ → List Call → List (List ℕ)
packets_on v cs = over_all (λ c. cond ((common_of c).channel == v) (packets_by c) []) cs

-- The next count of each channel after a call that left this one.
abbrev pub counted : (ℕ → ℕ) → ℕ → ℕ → ℕ → ℕ
counted counts channel count v = cond (channel == v) count (counts v)

-- Each call did what is promised, all of one t; each starts with the master count that the one before it left, and with the channel count
-- that the last one on its channel left. The first ones start with these.
abbrev pub HandedOn : ℕ → ℕ → (ℕ → ℕ) → List Call → Type 0
HandedOn t master counts [] = Unit {0}
HandedOn t master counts (c ∷ cs) =
    Does c × ((common_of c).t ≡ t) × (master_of c ≡ master) × (count_of c ≡ counts (common_of c).channel)
    × HandedOn t (sent_by c).master.0 (counted counts (common_of c).channel (sent_by c).count.0) cs

-- How many of the packets' octets are taken by choices.
abbrev pub taken : List Choice → ℕ
taken [] = 0
taken (raw xs ∷ choices) = taken choices
taken (next n ∷ choices) = n + taken choices

-- They are a sender's by the rules: what they left is what the frame writer gives for frames of such a sender, whose packets on each
-- channel are those of the calls, sent to the last octet.
pub record ByRules (t : ℕ) (calls : List Call) : Type 0 where
  pub sender : Sender t (over_all made_by calls)
  pub octets : over_all left_by calls ≡ map (sent_octets t) (over_all made_by calls)
  pub packets : (v : ℕ) (l : v < virtual_channels) → (sender.streams v l).packets ≡ packets_on v calls
  pub whole : (v : ℕ) (l : v < virtual_channels) → taken (sender.streams v l).choices ≡ length (joined (packets_on v calls))

abbrev pub CallsByRules : Type 0
CallsByRules =
    (t master : ℕ) (counts : ℕ → ℕ) (calls : List Call) → master < 256 → ((v : ℕ) → counts v < 256)
    → HandedOn t master counts calls → ByRules t calls

-- ---- one call of `send`

-- The packets end to end, all frames of the wanted data length except a shorter last one, which is empty only if there are no packets.
pub record CutBySize (w : Wanted) : Type 0 where
  pub before : ℕ
  pub last : ℕ
  pub lengths : map length (map (λ (f : Framed). f.«data») (frames_of w)) ≡ replicate before w.size ++ last ∷ []
  pub shorter : last ≤ w.size
  pub none : last ≡ 0 → packets_of w ≡ []
  pub octets : joined (map (λ (f : Framed). f.«data») (frames_of w)) ≡ joined (packets_of w)

abbrev pub CallsCutBySize : Type 0
CallsCutBySize = (c : SendCall) → Does (sends c) → CutBySize c.wanted
