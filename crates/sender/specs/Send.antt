-- 4. Document 02, M-107: what the sender's calls answer, and what they leave of what is lent.
use Rattle.std.specs.Prelude.{◌≡◌, ℕ, ◌+◌, ◌%◌, Bool, false, not, ◌||◌, List, [], ◌∷◌, map, length, ◌==◌, nat_lt, Ok, Err}
use Rattle.octets.specs.Pick.{pick}
use Rattle.octets.specs.Parts.{written}
use Rattle.answer.specs.Told.{Told, accept, refuse, TellsNothing, refuse_for}
use Rattle.answer.specs.Refusals as refusal
use Rattle.answer.specs.Writer.{left}
use Rattle.frame.specs.Limits.{longest_data}
use Rattle.frame.specs.Write.{fields_wrong}
use Rattle.packet.specs.Packet.{read_packet}
use Rattle.rules.specs.Packets.{joined}
use Rattle.lengths.specs.Lengths.{lengths_wrong}
use Rattle.sender.specs.Sender.{sent_octets}
use Rattle.sender.specs.Frames.{Wanted, packets_of, empty_frame, frames_of}
use Rattle.sender.specs.declared.Common.{Common}
use Rattle.sender.specs.declared.Sent.{Sent}
use Rattle.sender.specs.Answers.{SendAnswer}

-- Octets for the frames, and a list for their lengths.
pub record Lent : Type 0 where
  pub octets : List ℕ
  pub lengths : List ℕ

abbrev pub lent : List ℕ → List ℕ → Lent
lent octets lengths = record { octets = octets; lengths = lengths }

-- ---- the answer

abbrev pub no_sent : Sent
no_sent = record { frames = 0; octets = 0; master = record { 0 = 0 }; count = record { 0 = 0 } }

-- The numbers of an answer's fields: in a refusal's each is 0.
abbrev pub sent_numbers : Sent → List ℕ
sent_numbers s = s.frames ∷ s.octets ∷ s.master.0 ∷ s.count.0 ∷ []

abbrev pub told : SendAnswer → Told Sent
told (Ok s) = accept s
told (Err n) = refuse_for no_sent n

abbrev pub RefusalsTellNothing : Type 0
RefusalsTellNothing = TellsNothing told sent_numbers

-- The count that n frames lead to.
abbrev pub count_after : ℕ → ℕ → ℕ
count_after count n = (count + n) % 256

-- So many frames and octets, and the counts of the frame to follow, where the first frame had these.
abbrev pub tells : ℕ → ℕ → ℕ → ℕ → Sent
tells master count frames octets =
    record {
      frames = frames;
      octets = octets;
      master = record { 0 = count_after master frames };
      count = record { 0 = count_after count frames };
    }

abbrev pub sent_of : ℕ → ℕ → List (List ℕ) → Sent
sent_of master count frames = tells master count (length frames) (length (joined frames))

-- ---- the refusals' lines

-- 51: a frame field but the data length out of range.
abbrev pub common_wrong : Common → ℕ → ℕ → List ℕ → Bool
common_wrong c master count time = fields_wrong (empty_frame c time master count).fields c.t 0 (length time)

-- 52: a packet that the packet reader turns away.
abbrev pub turned_away : List ℕ → Bool
turned_away p = not (read_packet p).accepted

abbrev pub any_turned_away : List (List ℕ) → Bool
any_turned_away [] = false
any_turned_away (p ∷ ps) = turned_away p || any_turned_away ps

-- 53: data length out of range.
abbrev pub size_wrong : ℕ → ℕ → Bool
size_wrong size t = size == 0 || nat_lt (longest_data t) size

-- 50: less room than the frames, or their lengths, take.
abbrev pub room_wrong : List (List ℕ) → Lent → Bool
room_wrong frames l = nat_lt (length l.octets) (length (joined frames)) || nat_lt (length l.lengths) (length frames)

-- ---- the calls

-- What a call answers, and what is lent as it leaves it: as it is to be, and as a caller observes it.
pub record Outcome : Type 0 where
  pub answer : Told Sent
  pub lent : Lent

abbrev pub observed : SendAnswer → List ℕ → List ℕ → Outcome
observed r octets lengths = record { answer = told r; lent = lent octets lengths }

-- A refusal: its number, and nothing lent changes.
abbrev pub refused : ℕ → Lent → Outcome
refused n l = record { answer = refuse no_sent n; lent = l }

-- Frames one after another at the start of the lent octets, their lengths at the start of the lent list; all beyond stays.
abbrev pub made : ℕ → ℕ → List (List ℕ) → Lent → Outcome
made master count frames l =
    record {
      answer = accept (sent_of master count frames);
      lent = lent (written (joined frames) l.octets) (written (map length frames) l.lengths);
    }

-- The frames' octets, as the frame writer gives them.
abbrev pub octets_of : Wanted → List (List ℕ)
octets_of w = map (sent_octets w.common.t) (frames_of w)

-- 51, 52, 53, 50, in this order, else the frames.
unfoldable pub sending : Wanted → Lent → Outcome
sending w l =
    pick (common_wrong w.common w.master w.count w.time || lengths_wrong w.lengths (length w.octets))
    (refused refusal.field_range l)
    (pick (any_turned_away (packets_of w)) (refused refusal.packet_turned_away l)
    (pick (size_wrong w.size w.common.t) (refused refusal.data_length l)
    (pick (room_wrong (octets_of w) l) (refused refusal.output_short l)
    (made w.master w.count (octets_of w) l))))

-- The step that makes one empty frame: 51, then 50, else the frame; the lent output before and after.
abbrev pub empty_octets : Common → ℕ → ℕ → List ℕ → List ℕ
empty_octets c master count time = sent_octets c.t (empty_frame c time master count)

pub record Emptied (c : Common) (master count : ℕ) (time out : List ℕ) (r : SendAnswer) (out' : List ℕ) : Type 0 where
  pub answers :
      told r
      ≡ pick (common_wrong c master count time) (refuse no_sent refusal.field_range)
      (pick (nat_lt (length out) (length (empty_octets c master count time))) (refuse no_sent refusal.output_short)
      (accept (tells master count 1 (length (empty_octets c master count time)))))
  pub leaves : out' ≡ left (common_wrong c master count time) (empty_octets c master count time) out
