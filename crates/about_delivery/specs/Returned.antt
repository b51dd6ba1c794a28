-- Document 02, M-107: demand 3 holds of what `send` and `empty` made, and offered without loss it gives the packets back.
use Rattle.std.specs.Prelude.{ℕ, ◌+◌, ◌-◌, ◌/◌, ◌≤◌, ◌<◌, ◌≡◌, List, [], ◌∷◌, ◌++◌, map, cond, length, get_or, drop, replicate}
use Rattle.frame.specs.Limits.{longest_time}
use Rattle.rules.specs.Limits.{virtual_channels, last_number}
use Rattle.rules.specs.Channel.{Handed}
use Rattle.rules.specs.Packets.{joined}
use Rattle.session.specs.declared.Opened.{Opened}
use Rattle.session.specs.Open.{Opens}
use Rattle.stretch.specs.Stretch.{Stretch, found}
use Rattle.sender.specs.Sender.{Framed, of_channel, piece_of}
use Rattle.sender.specs.Frames.{packets_of, frames_of}
use Rattle.sender.specs.Calls as sender
use Rattle.about_delivery.specs.Link.{Passing, Strays, passed, fates}
use Rattle.about_delivery.specs.Expected.{carries, FewLost}
use Rattle.about_delivery.specs.Delivered.{handed, Delivered}
use Rattle.about_delivery.specs.Run.{Call, Runs, Room, offer_of, reports_of}

-- Calls of `send` and `empty` one after another, on any channels, all of one t, with the counts handed on, from these on.
pub record Made : Type 0 where
  pub t : ℕ
  pub master : ℕ
  pub small : master < 256
  pub counts : ℕ → ℕ
  pub small_each : (v : ℕ) → counts v < 256
  pub calls : List sender.Call
  pub handed_on : sender.HandedOn t master counts calls

-- The frames that they made, and the octets in which a caller finds them.
abbrev pub frames_in : Made → List Framed
frames_in m = sender.over_all sender.made_by m.calls

abbrev pub octets_in : Made → List (List ℕ)
octets_in m = sender.over_all sender.left_by m.calls

-- A fresh session of that t, as `Session::open` promises it, under any last arrival number used (0: a fresh one), that is offered these,
-- each by a call that does what `Session::step` promises, with numbers and room to spare.
pub record Offered (t : ℕ) (offer : List Stretch) : Type 0 where
  pub time_size : t ≤ longest_time
  pub last : ℕ
  pub opened : Opened
  pub opens : Opens t last opened
  pub calls : List Call
  pub offers : map offer_of calls ≡ offer
  pub runs : Runs opened.session calls
  pub numbers : last + length offer ≤ last_number
  pub room : Room calls

-- Demand 3 holds of them: over any link, with all that is refused between the frames, on each channel of whose frames the link loses at
-- most 255 between two arrivals on it.
abbrev pub Delivers : Type 0
Delivers = (m : Made) (link : List Passing) → Strays m.t link → (o : Offered m.t (passed link (octets_in m)))
    → (v : ℕ) → v < virtual_channels → FewLost (fates v o.last link (frames_in m))
    → Delivered (sender.packets_on v m.calls) (fates v o.last link (frames_in m)) (reports_of v o.calls)

-- ---- without loss

-- For each octet of channel v's packets, the arrival number of the frame that carries it, if all arrive, the first as last + 1.
abbrev pub arrivals_of : ℕ → ℕ → List Framed → List ℕ
arrivals_of v last [] = []
arrivals_of v last (f ∷ fs) = cond (of_channel v f) (replicate (carries (piece_of f)) (last + 1)) [] ++ arrivals_of v (last + 1) fs

-- All packets, in order, each with the arrival numbers of the frames that hold its first octet and its last.
abbrev pub all_back : List (List ℕ) → List ℕ → List Handed
all_back [] arrivals = []
all_back (p ∷ ps) arrivals =
    record { first = get_or arrivals 0 0; arrival = get_or arrivals (length p - 1) 0; packet = p } ∷ all_back ps (drop (length p) arrivals)

-- Offered without loss they give the packets back: on each channel, what is read from the lent octets and lists and from the answers is
-- the packets of the calls on it.
abbrev pub GivesBack : Type 0
GivesBack = (m : Made) (o : Offered m.t (map found (octets_in m))) (v : ℕ) → v < virtual_channels
    → handed (reports_of v o.calls) ≡ all_back (sender.packets_on v m.calls) (arrivals_of v o.last (frames_in m))

-- Of one call of `send`, the packets' octet at place j is in the frame j / size.
abbrev pub ArrivalsBySize : Type 0
ArrivalsBySize = (c : sender.SendCall) → sender.Does (sender.sends c) → (last j : ℕ) → j < length (joined (packets_of c.wanted))
    → get_or (arrivals_of c.wanted.common.channel last (frames_of c.wanted)) j 0 ≡ last + 1 + j / c.wanted.size
