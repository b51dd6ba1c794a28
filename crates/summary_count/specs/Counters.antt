-- Where each counter stands, by what it counts.
use Rattle.std.specs.Prelude.{ℕ}

-- Image lines of images that have no place in the list of images, and whether the recording is bad: 0 or 1.
abbrev pub unplaced_lines : ℕ
unplaced_lines = 0

abbrev pub bad : ℕ
bad = 1

-- Frames, and over all channels the frames lost and the losses that are unknown.
abbrev pub accepted_frames : ℕ
accepted_frames = 2

abbrev pub refused_frames : ℕ
refused_frames = 3

abbrev pub lost_frames : ℕ
lost_frames = 4

abbrev pub unknown_losses : ℕ
unknown_losses = 5

-- Packets that were read, that were turned away, and those of them that were read and found no place among the keys.
abbrev pub read_packets : ℕ
read_packets = 6

abbrev pub away_packets : ℕ
away_packets = 7

abbrev pub unlisted_packets : ℕ
unlisted_packets = 8

-- Of each channel, by its number: frames, frames lost, losses that are unknown.
abbrev pub channel_numbers : ℕ
channel_numbers = 256

abbrev pub channel_frames : ℕ
channel_frames = 256

abbrev pub channel_lost : ℕ
channel_lost = 512

abbrev pub channel_unknown : ℕ
channel_unknown = 768

-- Of each refusal, by its number: frames, and packets.
abbrev pub refusal_numbers : ℕ
refusal_numbers = 65536

abbrev pub refused_with : ℕ
refused_with = 1024

abbrev pub away_with : ℕ
away_with = 66560

-- Of each APID: packets missing by the source sequence count, and how often that count started again at 0.
abbrev pub apid_numbers : ℕ
apid_numbers = 2048

abbrev pub apid_missing : ℕ
apid_missing = 132096

abbrev pub apid_restarted : ℕ
apid_restarted = 134144

-- Of each place in the list of images: the image's number and one more, 0 for a free place; and of each of its 120 lines 1 if it was
-- received, else 0.
abbrev pub image_places : ℕ
image_places = 1024

abbrev pub image_keys : ℕ
image_keys = 136192

abbrev pub image_lines : ℕ
image_lines = 137216

-- How many counters there are.
abbrev pub counters : ℕ
counters = 260096
