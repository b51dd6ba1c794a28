-- What one virtual channel makes of one frame: rules 1 to 5 of document 01, 'The session'.
use Rattle.std.specs.Prelude.{List, [], ◌∷◌, ◌++◌, Bool, true, false, ◌&&◌, cond, ℕ, zero, suc, ◌+◌, ◌-◌, length, drop, leb, ltb, eqb}
use Rattle.std.proofs.Math.Option.{Option, none, some}
use Rattle.octets.specs.Numbers.{at, word}
use Rattle.counts.specs.Loss.{Loss}
use Rattle.counts.specs.Lost.{lost_since, number}
use Rattle.frame.specs.Limits.{raw_data, none_starts}
use Rattle.packet.specs.Limits.{least_length, greatest_length}

-- What of a frame the rules read: the channel count, the pointer and the data.
pub record Piece : Type 0 where
  pub count : ℕ
  pub pointer : ℕ
  pub octets : List ℕ

-- A packet's whole length, told by its first six octets: C + 7.
abbrev pub length_in : List ℕ → ℕ
length_in p = word (at p 4) (at p 5) + 7

-- 16 to 251 octets.
abbrev pub allowed : ℕ → Bool
allowed n = leb least_length n && leb n greatest_length

-- What octets that begin at a packet's first octet amount to.
pub data Standing : Type 0 where
  unfinished whole wrong : Standing

unfoldable pub standing : List ℕ → Standing
standing h =
    cond (ltb (length h) 6) unfinished
    (cond (allowed (length_in h)) (cond (ltb (length h) (length_in h)) unfinished whole) wrong)

-- A packet that is not whole yet: the arrival number of the frame with its first octet, and its octets so far.
pub record Held : Type 0 where
  pub first : ℕ
  pub octets : List ℕ

abbrev pub held_of : ℕ → List ℕ → Held
held_of first octets = record { first = first; octets = octets }

abbrev pub nothing : Held
nothing = held_of 0 []

-- In which frame a packet was begun of which n octets are held: in `first`; with none held, in frame a.
abbrev pub begun_in : ℕ → ℕ → ℕ → ℕ
begun_in a first zero = a
begun_in a first (suc n) = first

-- One octet more, of the frame a.
abbrev pub grown : ℕ → Held → ℕ → Held
grown a h x = held_of (begun_in a h.first (length h.octets)) (h.octets ++ x ∷ [])

-- As a channel holds it: with nothing held the first number is 0.
abbrev pub cleared : Held → Held
cleared h = held_of (begun_in 0 h.first (length h.octets)) h.octets

-- A packet handed out, with the arrival numbers of the frames that held its first octet and its last.
pub record Handed : Type 0 where
  pub first : ℕ
  pub arrival : ℕ
  pub packet : List ℕ

-- What is held, now whole, is handed out at the frame with arrival number a.
abbrev pub given : ℕ → Held → Handed
given a h = record { first = h.first; arrival = a; packet = h.octets }

-- What the rules work on: in step or not, what is held, the packets handed out, and how many headers were completed in this frame.
pub record Work : Type 0 where
  pub in_step : Bool
  pub held : Held
  pub packets : List Handed
  pub headers : ℕ

abbrev pub out_of_step : List Handed → ℕ → Work
out_of_step ps n = record { in_step = false; held = nothing; packets = ps; headers = n }

abbrev pub holding : Held → List Handed → ℕ → Work
holding h ps n = record { in_step = true; held = h; packets = ps; headers = n }

-- Rule 5, an octet of the frame with arrival number a at a time: in step it goes to the held ones, out of step it is skipped.
abbrev pub settle : ℕ → Standing → Held → List Handed → ℕ → Work
settle a unfinished h ps n = holding h ps n
settle a whole h ps n = holding nothing (ps ++ given a h ∷ []) n
settle a wrong h ps n = out_of_step ps n

-- A header more, where the next octet is the packet's sixth.
abbrev pub sixth : List ℕ → ℕ → ℕ
sixth held n = cond (eqb (length held) 5) (suc n) n

unfoldable pub push : ℕ → Work → ℕ → Work
push a w x =
    cond w.in_step
    (settle a (standing (grown a w.held x).octets) (grown a w.held x) w.packets (sixth w.held.octets w.headers))
    w

abbrev pub feed : ℕ → Work → List ℕ → Work
feed a w [] = w
feed a w (x ∷ xs) = feed a (push a w x) xs

-- The pointer of a frame of n octets of data in which a header starts at `place`, if that is below n.
abbrev pub pointer_to : ℕ → ℕ → ℕ
pointer_to place n = cond (ltb place n) place none_starts

-- Rule 3. The place just after the held packet's last octet: 0 with nothing held, the data's end while its length is unknown.
unfoldable pub place_after : List ℕ → List ℕ → ℕ
place_after [] xs = 0
place_after (h ∷ hs) xs =
    cond (ltb (length (h ∷ hs ++ xs)) 6) (length xs) (length_in (h ∷ hs ++ xs) - length (h ∷ hs))

-- Rule 3. The held packet's length isn't known to be outside 16 to 251.
unfoldable pub length_holds : List ℕ → List ℕ → Bool
length_holds [] xs = true
length_holds (h ∷ hs) xs = cond (ltb (length (h ∷ hs ++ xs)) 6) true (allowed (length_in (h ∷ hs ++ xs)))

-- Rule 3. The frame goes on from what is held.
abbrev pub fits : List ℕ → ℕ → List ℕ → Bool
fits held pointer xs = length_holds held xs && eqb pointer (pointer_to (place_after held xs) (length xs))

-- Rule 3. The headers completed in what is held and the data, where that is dropped: one, if some but not six octets were held and the
-- data brings the sixth.
abbrev pub dropped : List ℕ → List ℕ → ℕ
dropped held xs = cond (ltb 0 (length held) && ltb (length held) 6 && leb 6 (length held + length xs)) 1 0

-- Rule 4, and what rule 5 makes of it; n headers were completed before.
unfoldable pub enter : ℕ → ℕ → ℕ → List ℕ → Work
enter a n pointer xs = cond (eqb pointer none_starts) (out_of_step [] n) (feed a (holding nothing [] n) (drop pointer xs))

-- Rules 2 to 5, for the frame with arrival number a.
unfoldable pub follow : ℕ → Bool → Held → ℕ → List ℕ → Work
follow a in_step h pointer xs =
    cond (eqb pointer raw_data) (record { in_step = in_step; held = h; packets = []; headers = 0 })
    (cond (in_step && fits h.octets pointer xs) (feed a (holding h [] 0) xs)
    (enter a (cond in_step (dropped h.octets xs) 0) pointer xs))

-- A channel: its last count if it had a frame, in step or not, and what is held.
pub record Channel : Type 0 where
  pub last : Option ℕ
  pub in_step : Bool
  pub held : Held

-- A fresh channel is out of step.
abbrev pub fresh : Channel
fresh = record { last = none; in_step = false; held = nothing }

-- Rule 1, then the others.
abbrev pub after_loss : ℕ → ℕ → Bool → Held → ℕ → List ℕ → Work
after_loss a zero in_step h pointer xs = follow a in_step h pointer xs
after_loss a (suc n) in_step h pointer xs = follow a false nothing pointer xs

-- What the channel answers to a frame: lost frames, headers completed, packets handed out, and the channel afterwards.
pub record Answer : Type 0 where
  pub lost : Loss
  pub headers : ℕ
  pub packets : List Handed
  pub next : Channel

abbrev pub answer : ℕ → Loss → Work → Answer
answer count lost w =
    record {
      lost = lost;
      headers = w.headers;
      packets = w.packets;
      next = record { last = some count; in_step = w.in_step; held = cleared w.held };
    }

-- The frame f, offered under the arrival number a.
unfoldable pub step : ℕ → Channel → Piece → Answer
step a c f =
    let lost : Loss = lost_since c.last f.count in
    answer f.count lost (after_loss a (number lost) c.in_step c.held f.pointer f.octets)
