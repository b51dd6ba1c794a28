-- 12. A recording of two channels, each with a loss, and with noise between the frames, of which the top statement speaks: it is not about
-- nothing.
use Rattle.std.specs.Prelude.{ℕ, ◌+◌, ◌≡◌, List, [], ◌∷◌, map, false, length, take, drop, set}
use Rattle.frame.specs.declared.Address.{Address}
use Rattle.frame.specs.Limits.{raw_data}
use Rattle.rules.specs.Channel.{Piece}
use Rattle.rules.specs.BothSides.{packet_of, out}
use Rattle.sender.specs.Stream.{Choice, raw, next, frames_by}
use Rattle.sender.specs.Sender.{Framed, sent_octets}
use Rattle.stretch.specs.Stretch.{found, unread}
use Rattle.about_delivery.specs.Link.{Passing, arrives, loses, noise, fates}
use Rattle.about_delivery.specs.Delivered.{handed, losses, Delivered}
use Rattle.about_delivery.specs.Run.{Call, answer_of, reports_of}
use Rattle.about_delivery.specs.Demand.{Reception}
use Rattle.about_delivery.specs.Further.{master_losses, refusal_of}
use Rattle.about_delivery.specs.Corners.{two, loss, at_first}

-- "HB9EG" of SSID 1 to "HB9EG" of SSID 2.
abbrev pub station : ℕ → Address
station ssid = record { callsign = record { 0 = 72; 1 = 66; 2 = 57; 3 = 69; 4 = 71; 5 = 32 }; ssid = ssid }

-- A frame of channel v with a master count and a time of two octets.
abbrev pub framed : ℕ → ℕ → Piece → Framed
framed v master p =
    record {
      fields = record {
        destination = station 2;
        source = station 1;
        channel = v;
        master = record { 0 = master };
        count = record { 0 = p.count };
        pointer = p.pointer;
        telecommands = 1;
        length = length p.octets;
      };
      «data» = p.octets;
      time = 4 ∷ 200 ∷ [];
    }

-- A frame of channel 0 and one of channel 5 in turn.
abbrev pub turns : ℕ → List Piece → List Piece → List Framed
turns master [] qs = []
turns master (p ∷ ps) [] = []
turns master (p ∷ ps) (q ∷ qs) = framed 0 master p ∷ framed 5 (master + 1) q ∷ turns (master + 2) ps qs

abbrev pub zero_choices : List Choice
zero_choices = next 10 ∷ next 20 ∷ next 0 ∷ next 16 ∷ []

abbrev pub five_choices : List Choice
five_choices = next 200 ∷ raw (8 ∷ []) ∷ next 70 ∷ next 249 ∷ []

abbrev pub five_packets : List (List ℕ)
five_packets = packet_of 251 4 ∷ two

abbrev pub recording : List Framed
recording = turns 7 (frames_by two 0 254 zero_choices) (frames_by five_packets 0 9 five_choices)

-- Channel 5's raw frame, and its octets with another octet of data in the frame: its check is wrong.
abbrev pub raw_frame : Framed
raw_frame = framed 5 10 (record { count = 10; pointer = raw_data; octets = 8 ∷ [] })

abbrev pub damaged : List ℕ
damaged = set (sent_octets 2 raw_frame) 20 9

-- Channel 5 loses its raw frame: it comes damaged, and is refused with 11. Channel 0 then loses its empty frame. Before that, a stretch is
-- refused with 17.
abbrev pub losing : List Passing
losing =
    arrives ∷ arrives ∷ noise (unread 17) ∷ arrives ∷ loses ∷ noise (found damaged) ∷ loses ∷ arrives ∷ arrives ∷ arrives ∷ []

-- A run in which every answer is a refusal.
abbrev pub AllRefused : List Call → Type 0
AllRefused [] = Unit {0}
AllRefused (c ∷ cs) = ((answer_of c).accepted ≡ false) × AllRefused cs

pub record Witness : Type 0 where
  pub reception : Reception
  pub sent : reception.frames ≡ recording
  pub lost : reception.link ≡ losing
  -- The fourth frame sent is the one that comes damaged.
  pub fourth : take 1 (drop 3 recording) ≡ raw_frame ∷ []
  pub refused_as : map refusal_of reception.calls ≡ 0 ∷ 0 ∷ 17 ∷ 0 ∷ 11 ∷ 0 ∷ 0 ∷ 0 ∷ []
  pub zero-packets : handed (reports_of 0 reception.calls) ≡ out 1 4 (packet_of 16 1) ∷ []
  pub zero-losses : losses (reports_of 0 reception.calls) ≡ at_first 1 ∷ loss 4 0 ∷ loss 7 1 ∷ []
  pub five-packets : handed (reports_of 5 reception.calls) ≡ out 6 6 (packet_of 16 1) ∷ out 6 8 (packet_of 30 2) ∷ []
  pub five-losses : losses (reports_of 5 reception.calls) ≡ at_first 2 ∷ loss 6 1 ∷ loss 8 0 ∷ []
  pub masters : master_losses reception.calls ≡ at_first 1 ∷ loss 2 0 ∷ loss 4 0 ∷ loss 6 2 ∷ loss 7 0 ∷ loss 8 0 ∷ []
  -- No run that refuses every frame would do.
  pub refused : (calls : List Call) → AllRefused calls → Delivered five_packets (fates 5 0 losing recording) (reports_of 5 calls) → ⊥
