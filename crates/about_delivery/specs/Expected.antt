-- 4. What is to come out of one channel, said by which frame carries each octet.
use Rattle.std.specs.Prelude.{ℕ, suc, ◌-◌, ◌≤◌, List, [], ◌∷◌, ◌++◌, Bool, true, false, ◌&&◌, cond, length, get_or, drop, replicate, leb, eqb, Some, None}
use Rattle.std.proofs.Math.Option.{Option, none, some}
use Rattle.std.proofs.Math.Seq.{slice}
use Rattle.counts.specs.Loss.{Loss}
use Rattle.counts.specs.Lost.{number}
use Rattle.frame.specs.Limits.{raw_data, none_starts}
use Rattle.rules.specs.Channel.{Piece, Handed}
use Rattle.sender.specs.Sender.{when}
use Rattle.about_delivery.specs.Link.{Fate, lost, got}

abbrev pub piece : Fate → Piece
piece (lost f) = f
piece (got a f) = f

abbrev pub is_got : Fate → Bool
is_got (lost f) = false
is_got (got a f) = true

abbrev pub arrival_of : Fate → ℕ
arrival_of (lost f) = 0
arrival_of (got a f) = a

-- Beyond the last frame.
abbrev pub nowhere : Fate
nowhere = lost (record { count = 0; pointer = none_starts; octets = [] })

-- How many octets of packets a frame carries: none if it is raw.
abbrev pub carries : Piece → ℕ
carries f = cond (eqb f.pointer raw_data) 0 (length f.octets)

-- For each octet of the channel's packets, as far as sent, the number of the frame that carries it; the first frame is number i.
abbrev pub owners : ℕ → List Fate → List ℕ
owners i [] = []
owners i (s ∷ ss) = replicate (carries (piece s)) i ++ owners (suc i) ss

abbrev pub all_got : List Fate → Bool
all_got [] = true
all_got (s ∷ ss) = is_got s && all_got ss

-- Every frame of the channel from number i to number j arrived, empty and raw ones too.
abbrev pub arrived : List Fate → ℕ → ℕ → Bool
arrived ss i j = all_got (slice i (suc j) ss)

-- The arrival number of the frame that carries the octet at index i of these.
abbrev pub arrival_at : List Fate → List ℕ → ℕ → ℕ
arrival_at ss owns i = arrival_of (get_or ss (get_or owns i 0) nowhere)

-- The packets in order, each taking the owners of its octets from the front. A packet is expected if every frame from its first octet's
-- to its last octet's arrived, with the arrival numbers of the first and the last; one that was not sent to its end ends the list.
abbrev pub expected_from : List Fate → List (List ℕ) → List ℕ → List Handed
expected_from ss [] owns = []
expected_from ss (p ∷ ps) owns =
    cond (leb (length p) (length owns))
    (when (arrived ss (get_or owns 0 0) (get_or owns (length p - 1) 0))
    (record { first = arrival_at ss owns 0; arrival = arrival_at ss owns (length p - 1); packet = p })
    ++ expected_from ss ps (drop (length p) owns))
    []

abbrev pub expected : List (List ℕ) → List Fate → List Handed
expected ps ss = expected_from ss ps (owners 0 ss)

-- At an arrival, how many frames were lost since the arrival before.
pub record LostAt : Type 0 where
  pub arrival : ℕ
  pub lost : Loss

abbrev pub lost_at : ℕ → Loss → LostAt
lost_at a n = record { arrival = a; lost = n }

-- Lost so far since the last arrival, if there was one.
abbrev pub one_more : Option ℕ → Option ℕ
one_more none = none
one_more (some n) = some (suc n)

-- At the first arrival it is unknown.
abbrev pub told_as : Option ℕ → Loss
told_as none = None
told_as (some n) = Some n

abbrev pub losses_after : Option ℕ → List Fate → List LostAt
losses_after so [] = []
losses_after so (lost f ∷ ss) = losses_after (one_more so) ss
losses_after so (got a f ∷ ss) = lost_at a (told_as so) ∷ losses_after (some 0) ss

abbrev pub expected_losses : List Fate → List LostAt
expected_losses ss = losses_after none ss

abbrev pub AtMost : ℕ → List LostAt → Type 0
AtMost m [] = Unit {0}
AtMost m (l ∷ ls) = (number l.lost ≤ m) × AtMost m ls

-- The most frames of a channel that may be lost between two arrivals on it: a count of one octet shows no more.
abbrev pub most_lost : ℕ
most_lost = 255

-- What the link may lose of a channel whose frames have these fates.
abbrev pub FewLost : List Fate → Type 0
FewLost ss = AtMost most_lost (expected_losses ss)
