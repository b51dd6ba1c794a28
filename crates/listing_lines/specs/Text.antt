-- Document 01, 'The program and its listing': the lines of the listing, as ASCII codes.
use Rattle.std.specs.Prelude.{ℕ, ◌≤◌, List, [], ◌∷◌, ◌++◌, length, Result, Ok, Err, Some, None}
use Rattle.octets.specs.Pick.{pick}
use Rattle.answer.specs.Told.{Told, accept, refuse}
use Rattle.decimal.specs.Text.{decimal}
use Rattle.counts.specs.Loss.{Loss}
use Rattle.packet.specs.Packet.{no_packet}
use Rattle.packet.specs.declared.Packet.{Packet}
use Rattle.session.specs.declared.Accepted.{Accepted}

-- A line: words one space apart.
abbrev pub line : List ℕ → List (List ℕ) → List ℕ
line word [] = word ++ (10 ∷ [])
line word (next ∷ words) = word ++ (32 ∷ line next words)

-- A dash.
abbrev pub dash : List ℕ
dash = 45 ∷ []

-- A loss: the number, or a question mark.
abbrev pub shown : Loss → List ℕ
shown None = 63 ∷ []
shown (Some n) = decimal n

-- Arrival, 0, channel, lost, master lost, packets.
unfoldable pub accepted_line : ℕ → Accepted → List ℕ
accepted_line arrival a =
    line (decimal arrival) (decimal 0 ∷ decimal a.channel ∷ shown a.lost ∷ shown a.master ∷ decimal a.packets ∷ [])

-- Arrival, the refusal's number (of an octet nothing is shown), four dashes.
unfoldable pub refused_line : ℕ → ℕ → List ℕ
refused_line arrival refusal = line (decimal arrival) (decimal refusal ∷ dash ∷ dash ∷ dash ∷ dash ∷ [])

-- P, the arrival numbers of the frames with its first octet and its last, APID, sequence count, type, subtype, length.
unfoldable pub packet_line : ℕ → ℕ → Packet → ℕ → List ℕ
packet_line first arrival p size =
    line (80 ∷ [])
    (decimal first ∷ decimal arrival ∷ decimal p.apid ∷ decimal p.sequence.0 ∷ decimal p.service ∷ decimal
    p.subtype ∷ decimal size ∷ [])

-- Q, the same two arrival numbers, refusal, length.
unfoldable pub turned_away_line : ℕ → ℕ → ℕ → ℕ → List ℕ
turned_away_line first arrival refusal size = line (81 ∷ []) (decimal first ∷ decimal arrival ∷ decimal refusal ∷ decimal size ∷ [])

-- A frame's line: what the session told of it.
abbrev pub answer_text : ℕ → Told Accepted → List ℕ
answer_text arrival t = pick t.accepted (accepted_line arrival t.fields) (refused_line arrival t.refusal)

-- What the packet reader told, its refusal by the number.
abbrev pub numbered : Result Packet ℕ → Told Packet
numbered (Ok p) = accept p
numbered (Err n) = refuse no_packet n

-- A packet's line: what the packet reader told of it.
abbrev pub packet_text : ℕ → ℕ → ℕ → Told Packet → List ℕ
packet_text first arrival size t =
    pick t.accepted (packet_line first arrival t.fields size) (turned_away_line first arrival t.refusal size)

-- The most octets that a line takes.
abbrev pub longest_line : ℕ
longest_line = 80

-- No line of a frame or a packet is longer.
pub record LinesAreShort : Type 0 where
  pub answers : (arrival : ℕ) (t : Told Accepted) → length (answer_text arrival t) ≤ longest_line
  pub packets : (first arrival size : ℕ) (t : Told Packet) → length (packet_text first arrival size t) ≤ longest_line

-- "arrival answer channel lost master packets"
abbrev pub header : List ℕ
header =
    line (97 ∷ 114 ∷ 114 ∷ 105 ∷ 118 ∷ 97 ∷ 108 ∷ [])
    ((97 ∷ 110 ∷ 115 ∷ 119 ∷ 101 ∷ 114 ∷ [])
    ∷ (99 ∷ 104 ∷ 97 ∷ 110 ∷ 110 ∷ 101 ∷ 108 ∷ [])
    ∷ (108 ∷ 111 ∷ 115 ∷ 116 ∷ [])
    ∷ (109 ∷ 97 ∷ 115 ∷ 116 ∷ 101 ∷ 114 ∷ [])
    ∷ (112 ∷ 97 ∷ 99 ∷ 107 ∷ 101 ∷ 116 ∷ 115 ∷ [])
    ∷ [])

-- "bad recording"
abbrev pub bad_recording : List ℕ
bad_recording = line (98 ∷ 97 ∷ 100 ∷ []) ((114 ∷ 101 ∷ 99 ∷ 111 ∷ 114 ∷ 100 ∷ 105 ∷ 110 ∷ 103 ∷ []) ∷ [])
