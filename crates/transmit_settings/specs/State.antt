-- 1. What a script has set and made so far.
use Rattle.std.specs.Prelude.{ℕ, ◌+◌, ◌%◌, ◌^◌, List, replicate, nat_lt, slice_set}
use Rattle.octets.specs.Numbers.{at}
use Rattle.octets.specs.Pick.{pick}
use Rattle.frame.specs.declared.Address.{Address}
use Rattle.rules.specs.Limits.{virtual_channels}
use Rattle.sender.specs.declared.Common.{Common}
use Rattle.sender.specs.declared.Sent.{Sent}
use Rattle.transmit_settings.specs.declared.Row.{Row}
use Rattle.transmit_settings.specs.declared.State.{State}

-- ---- one setting changed, all others kept

abbrev pub common : Address → Address → ℕ → ℕ → ℕ → Common
common destination source channel telecommands t =
    record { destination = destination; source = source; channel = channel; telecommands = telecommands; t = t }

abbrev pub to_destination : Common → Address → Common
to_destination c a = common a c.source c.channel c.telecommands c.t

abbrev pub from_source : Common → Address → Common
from_source c a = common c.destination a c.channel c.telecommands c.t

abbrev pub on_channel : Common → ℕ → Common
on_channel c n = common c.destination c.source n c.telecommands c.t

abbrev pub after_telecommands : Common → ℕ → Common
after_telecommands c n = common c.destination c.source c.channel n c.t

abbrev pub of_time : Common → ℕ → Common
of_time c n = common c.destination c.source c.channel c.telecommands n

abbrev pub state : Common → ℕ → ℕ → ℕ → List ℕ → Row → Row → State
state c size stamp master counts waiting made =
    record { common = c; size = size; stamp = stamp; master = master; counts = counts; waiting = waiting; made = made }

abbrev pub with_common : State → Common → State
with_common s c = state c s.size s.stamp s.master s.counts s.waiting s.made

abbrev pub with_size : State → ℕ → State
with_size s n = state s.common n s.stamp s.master s.counts s.waiting s.made

abbrev pub with_stamp : State → ℕ → State
with_stamp s n = state s.common s.size n s.master s.counts s.waiting s.made

abbrev pub with_master : State → ℕ → State
with_master s n = state s.common s.size s.stamp n s.counts s.waiting s.made

abbrev pub with_counts : State → List ℕ → State
with_counts s counts = state s.common s.size s.stamp s.master counts s.waiting s.made

abbrev pub with_waiting : State → Row → State
with_waiting s r = state s.common s.size s.stamp s.master s.counts r s.made

abbrev pub with_made : State → Row → State
with_made s r = state s.common s.size s.stamp s.master s.counts s.waiting r

-- ---- the counts

-- The count of the channel's next frame; 0 of no channel.
unfoldable pub count_of : State → ℕ
count_of s = pick (nat_lt s.common.channel virtual_channels) (at s.counts s.common.channel) 0

-- Another count of the channel's next frame; no channel has one.
unfoldable pub with_count : State → ℕ → State
with_count s n =
    pick (nat_lt s.common.channel virtual_channels) (with_counts s (slice_set s.counts s.common.channel n)) s

-- ---- what is waiting and made

abbrev pub row : ℕ → ℕ → Row
row octets count = record { octets = octets; count = count }

abbrev pub no_row : Row
no_row = row 0 0

-- More octets, and more packets or frames; a number has 64 bits.
abbrev pub more : Row → ℕ → ℕ → Row
more r octets count = row ((r.octets + octets) % 2 ^ 64) ((r.count + count) % 2 ^ 64)

-- After frames were made: the counts are those of the frames to follow.
unfoldable pub after_sent : State → Sent → State
after_sent s sent =
    with_made (with_master (with_count s sent.count.0) sent.master.0) (more s.made sent.octets sent.frames)

-- ---- before the first line

abbrev pub nobody : Address
nobody = record { callsign = record { 0 = 32; 1 = 32; 2 = 32; 3 = 32; 4 = 32; 5 = 32 }; ssid = 0 }

abbrev pub fresh_state : State
fresh_state = state (common nobody nobody 0 0 0) 243 0 0 (replicate virtual_channels 0) no_row no_row
