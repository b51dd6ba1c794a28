-- 3. Document 02, M-107: the frames that the sender for the test bench makes of packets.
use Rattle.std.specs.Prelude.{ℕ, ◌-◌, ◌*◌, ◌/◌, List, [], ◌∷◌, ◌++◌, length, replicate}
use Rattle.counts.specs.declared.MasterCount.{MasterCount}
use Rattle.counts.specs.declared.ChannelCount.{ChannelCount}
use Rattle.frame.specs.Limits.{none_starts}
use Rattle.frame.specs.declared.Frame.{Frame}
use Rattle.rules.specs.Channel.{Piece}
use Rattle.rules.specs.Packets.{joined, cut}
use Rattle.sender.specs.Stream.{Choice, next, next_count, frames_by}
use Rattle.sender.specs.Sender.{Framed}
use Rattle.sender.specs.declared.Common.{Common}

-- What is wanted: what is the same for all frames, both starting counts, the time's octets, the packets' octets end to end with their
-- lengths, and the data length.
pub record Wanted : Type 0 where
  pub common : Common
  pub master : ℕ
  pub count : ℕ
  pub time : List ℕ
  pub octets : List ℕ
  pub lengths : List ℕ
  pub size : ℕ

abbrev pub wanted : Common → MasterCount → ChannelCount → List ℕ → List ℕ → List ℕ → ℕ → Wanted
wanted c m n time octets lengths size =
    record { common = c; master = m.0; count = n.0; time = time; octets = octets; lengths = lengths; size = size }

-- The list of packets.
abbrev pub packets_of : Wanted → List (List ℕ)
packets_of w = cut w.octets w.lengths

-- The fields of a frame with these counts, this pointer and n octets of data; all else is the same for all frames.
abbrev pub fields_of : Common → ℕ → ℕ → ℕ → ℕ → Frame
fields_of c master count pointer n =
    record {
      destination = c.destination;
      source = c.source;
      channel = c.channel;
      master = record { 0 = master };
      count = record { 0 = count };
      pointer = pointer;
      telecommands = c.telecommands;
      length = n;
    }

-- A frame with this master count, and the channel count, pointer and data of a piece.
abbrev pub framed : Common → List ℕ → ℕ → Piece → Framed
framed c time master p =
    record { fields = fields_of c master p.count p.pointer (length p.octets); «data» = p.octets; time = time }

-- Frames one after another, with the master counts of the first on.
abbrev pub framed_from : Common → List ℕ → ℕ → List Piece → List Framed
framed_from c time master [] = []
framed_from c time master (p ∷ ps) = framed c time master p ∷ framed_from c time (next_count master) ps

-- An empty frame: no packet header starts in it.
abbrev pub empty_frame : Common → List ℕ → ℕ → ℕ → Framed
empty_frame c time master count = framed c time master (record { count = count; pointer = none_starts; octets = [] })

-- Of m octets all frames take `size`, except a shorter last one, which takes what is left. No octets give one empty frame.
abbrev pub full_frames : ℕ → ℕ → ℕ
full_frames size m = (m - 1) / size

unfoldable pub choices_of : ℕ → ℕ → List Choice
choices_of size m = replicate (full_frames size m) (next size) ++ next (m - full_frames size m * size) ∷ []

-- The packets end to end, cut into such frames by the rules.
unfoldable pub frames_of : Wanted → List Framed
frames_of w =
    framed_from w.common w.time w.master
    (frames_by (packets_of w) 0 w.count (choices_of w.size (length (joined (packets_of w)))))
