-- Document 02, M-112, over a run of a session: what a row of a table that passes is about. A run is any in which each call did what
-- `Session::step` or `Session::turn_away` promises, on any session, and so from any opening; the packets are those of all its channels.
use Rattle.std.specs.Prelude.{ℕ, ◌-◌, ◌≤◌, ◌<◌, ◌≡◌, true, List, [], ◌∷◌, ◌++◌, length, drop, get_or, leb}
use Rattle.std.proofs.Math.Option.{some}
use Rattle.std.proofs.Math.ListN.{get_elem?}
use Rattle.octets.specs.Pick.{pick}
use Rattle.packet.specs.Packet.{read_packet}
use Rattle.rules.specs.Limits.{virtual_channels}
use Rattle.rules.specs.Channel.{Handed}
use Rattle.rules.specs.Packets.{joined}
use Rattle.session.specs.declared.Session.{Session}
use Rattle.about_delivery.specs.Link.{Fate, fates}
use Rattle.about_delivery.specs.Expected.{owners, arrived, arrival_at, FewLost}
use Rattle.about_delivery.specs.Run.{Call, Runs, answer_of, packets_of}
use Rattle.about_delivery.specs.Demand.{Reception}
use Rattle.table.specs.Table.{Column, Row, columns_of, rows_of, numbered, verdict}
use Rattle.table.specs.Statements.{Stands}
use Rattle.table.specs.declared.Verdict.TheVariants.{Passes}

-- All packets that a run handed out, in the calls' order.
abbrev pub handed_out : List Call → List Handed
handed_out [] = []
handed_out (c ∷ cs) = packets_of c ++ handed_out cs

-- The calls up to an arrival number: those after which no higher one was used.
abbrev pub up_to : ℕ → List Call → List Call
up_to n [] = []
up_to n (c ∷ cs) = pick (leb c.result.session.arrival n) (c ∷ up_to n cs) []

-- A row of a table that passes against all that a run handed out.
pub record PassedRow (table : List ℕ) (calls : List Call) : Type 0 where
  pub passes : verdict table (handed_out calls) ≡ Passes
  pub place : ℕ
  pub row : Row
  pub there : get_elem? (rows_of table) place ≡ some row

-- The packet that a row is about, of these: the packet reader accepts it, and the value stands in it, in the row's column.
pub record Reading (table : List ℕ) (packets : List Handed) (r : Row) (h : Handed) : Type 0 where
  pub numbered : numbered packets r.packet ≡ some h
  pub accepted : (read_packet h.packet).accepted ≡ true
  pub column : Column
  pub such : get_elem? (columns_of table) r.column ≡ some column
  pub stands : Stands column h.packet r.value

-- The reading is there among all packets, and the same already among those handed out up to the claim: what arrived later is not needed.
pub record Known (table : List ℕ) (calls : List Call) (r : Row) : Type 0 where
  pub packet : Handed
  pub among : Reading table (handed_out calls) r packet
  pub known : Reading table (handed_out (up_to r.claim calls)) r packet

abbrev pub KnownAtTheClaim : Type 0
KnownAtTheClaim =
    (s : Session) (calls : List Call) → Runs s calls → (table : List ℕ) (p : PassedRow table calls) → Known table calls p.row

-- The frame that told a packet, number n of the run: it was accepted, and with it the packet was handed out.
pub record Teller (calls : List Call) (n : ℕ) (h : Handed) : Type 0 where
  pub before : List Call
  pub call : Call
  pub behind : List Call
  pub cut : calls ≡ before ++ call ∷ behind
  pub accepted : (answer_of call).accepted ≡ true
  pub later : length (handed_out before) < n
  pub told : numbered (handed_out before ++ packets_of call) n ≡ some h

-- NO ROW THAT PASSES CLAIMS TO KNOW A READING BEFORE THE FRAME THAT TOLD IT ARRIVED.
pub record NotBefore (table : List ℕ) (calls : List Call) (r : Row) : Type 0 where
  pub packet : Handed
  pub reading : Reading table (handed_out calls) r packet
  pub teller : Teller calls r.packet packet
  pub claim : (answer_of teller.call).fields.arrival ≤ r.claim

abbrev pub NeverBefore : Type 0
NeverBefore =
    (s : Session) (calls : List Call) → Runs s calls → (table : List ℕ) (p : PassedRow table calls) → NotBefore table calls p.row

-- ---- of a sender by the rules, received as demand 3 says

-- A packet that was sent and arrived whole: of all the channel's packets, behind some, and every frame of the channel from that with its
-- first octet to that with its last arrived, under these numbers. `carriers` are the frames of its octets and of those behind them.
abbrev pub carriers : List (List ℕ) → List Fate → List ℕ
carriers before fates = drop (length (joined before)) (owners 0 fates)

pub record Whole (packets : List (List ℕ)) (fates : List Fate) (h : Handed) : Type 0 where
  pub before : List (List ℕ)
  pub behind : List (List ℕ)
  pub sent : packets ≡ before ++ h.packet ∷ behind
  pub carried : length h.packet ≤ length (carriers before fates)
  pub arrived : arrived fates (get_or (carriers before fates) 0 0) (get_or (carriers before fates) (length h.packet - 1) 0) ≡ true
  pub first : h.first ≡ arrival_at fates (carriers before fates) 0
  pub last : h.arrival ≡ arrival_at fates (carriers before fates) (length h.packet - 1)

-- The channel of the frame that a call took, and the fates of a channel's frames in a reception.
abbrev pub channel_of : Call → ℕ
channel_of c = (answer_of c).fields.channel

abbrev pub fates_on : Reception → ℕ → List Fate
fates_on r v = fates v r.last r.link r.frames

-- The value stood in a packet that the frame that told it completed, and it was known at the claim. If the link lost at most 255 of that
-- frame's channel between two arrivals on it, the packet was sent on that channel, and arrived whole.
pub record Sent (r : Reception) (table : List ℕ) (x : Row) : Type 0 where
  pub packet : Handed
  pub reading : Reading table (handed_out r.calls) x packet
  pub teller : Teller r.calls x.packet packet
  pub virtual : channel_of teller.call < virtual_channels
  pub whole : FewLost (fates_on r (channel_of teller.call))
      → Whole (r.sender.streams (channel_of teller.call) virtual).packets (fates_on r (channel_of teller.call)) packet
  pub claim : packet.arrival ≤ x.claim

abbrev pub SentWhole : Type 0
SentWhole = (r : Reception) (table : List ℕ) (p : PassedRow table r.calls) → Sent r table p.row
