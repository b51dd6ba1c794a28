-- What the checks are worth: of a packet or a frame that its reader accepts, the reader refuses what damage makes of it.
use Rattle.std.specs.Prelude.{ℕ, ◌≤◌, ◌≡◌, Bool, true, false, List, length, eqb}
use Rattle.octets.specs.Numbers.{at, word}
use Rattle.octets.specs.Pick.{pick}
use Rattle.answer.specs.Refusals as refusal
use Rattle.bits.specs.Rows.{Order}
use Rattle.bits.specs.Rows.Order.{high_first, low_first}
use Rattle.crc.specs.Check.{check}
use Rattle.packet.specs.Answers.{PacketRead}
use Rattle.packet.specs.Packet as packet
use Rattle.frame.specs.Answers.{FrameRead}
use Rattle.frame.specs.Limits.{greatest_length}
use Rattle.frame.specs.Frame as frame
use Rattle.about_damage.specs.Damage.{Damaged}

-- ---- the check, once over the bit order and the mask

-- Over the damaged octets the check gives another number than over those that were: no more than a frame has, and a packet has fewer.
abbrev pub CheckShows : Type 0
CheckShows =
    (o : Order) (mask : List Bool) (was became : List ℕ) → length mask ≡ 16 → length was ≤ greatest_length
    → Damaged o was became → check o mask became ≡ check o mask was → ⊥

-- ---- packets

-- What `Packet::read` promises of its answer.
abbrev pub PacketReads : List ℕ → PacketRead → Type 0
PacketReads octets answer = packet.told answer ≡ packet.read_packet octets

-- C, which says the length.
abbrev pub c_of : List ℕ → ℕ
c_of octets = word (at octets 4) (at octets 5)

-- Refused: with 21 if C is as it was, else with 20.
pub record PacketRefused (was became : List ℕ) (answer : PacketRead) : Type 0 where
  pub accepted : (packet.told answer).accepted ≡ false
  pub number : (packet.told answer).refusal ≡ pick (eqb (c_of became) (c_of was)) refusal.packet_check refusal.packet_length

-- Whatever the reader answers of octets, if it accepts them it refuses them damaged.
abbrev pub PacketWorth : Type 0
PacketWorth =
    (was became : List ℕ) (before after : PacketRead) → PacketReads was before → (packet.told before).accepted ≡ true
    → Damaged high_first was became → PacketReads became after → PacketRefused was became after

-- ---- frames, for every t

-- What `Frame::read` promises of its answer.
abbrev pub FrameReads : ℕ → List ℕ → FrameRead → Type 0
FrameReads t octets answer = frame.told answer ≡ frame.read_frame t octets

-- Refused with 11.
pub record FrameRefused (answer : FrameRead) : Type 0 where
  pub accepted : (frame.told answer).accepted ≡ false
  pub number : (frame.told answer).refusal ≡ refusal.frame_check

abbrev pub FrameWorth : Type 0
FrameWorth =
    (t : ℕ) (was became : List ℕ) (before after : FrameRead) → FrameReads t was before → (frame.told before).accepted ≡ true
    → Damaged low_first was became → FrameReads t became after → FrameRefused after
