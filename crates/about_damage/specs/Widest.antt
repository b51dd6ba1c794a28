-- That each kind of damage is as wide as it is said to be: what the words of M-109 cover is covered, and a packet is damaged in each way.
use Rattle.std.specs.Prelude.{ℕ, ◌+◌, ◌<◌, ◌≡◌, Bool, true, false, List, [], ◌∷◌, ◌++◌, length}
use Rattle.answer.specs.Refusals as refusal
use Rattle.bits.specs.Rows.{zeros}
use Rattle.bits.specs.Rows.Order.{high_first}
use Rattle.packet.specs.Packet.{told}
use Rattle.packet.specs.Answers.{PacketRead}
use Rattle.about_damage.specs.Damage.{count, Shown, Damaged}
use Rattle.about_damage.specs.Worth.{PacketReads}
use Rattle.about_damage.specs.Unseen.{packet}

-- An odd number of bits, however many.
abbrev pub AnyOdd : Type 0
AnyOdd = (row : List Bool) (k : ℕ) → count row ≡ k + k + 1 → Shown row

-- Any two bits, however far apart.
abbrev pub AnyTwo : Type 0
AnyTwo = (before between behind : ℕ) → Shown (zeros before ++ (true ∷ (zeros between ++ (true ∷ zeros behind))))

-- One or more of 16 neighbours, whichever they are and wherever they lie.
abbrev pub AnyOfSixteen : Type 0
AnyOfSixteen =
    (before behind : ℕ) (burst : List Bool) → length burst ≡ 16 → 0 < count burst → Shown (zeros before ++ (burst ++ zeros behind))

-- The packet of specs/Unseen with its first bit and its last changed; with one between them changed too; with 16 neighbours changed, all
-- of them, that begin within an octet.
abbrev pub two_far_apart : List ℕ
two_far_apart = 0x88 ∷ 0x05 ∷ 0xc0 ∷ 0x09 ∷ 0x00 ∷ 0x09 ∷ 0x10 ∷ 0x01 ∷ 0x01 ∷ 0x00 ∷ 0x00 ∷ 0x00 ∷ 0x01 ∷ 0x80 ∷ 0xaf ∷ 0xf8 ∷ []

abbrev pub three_far_apart : List ℕ
three_far_apart = 0x88 ∷ 0x05 ∷ 0xc0 ∷ 0x09 ∷ 0x00 ∷ 0x09 ∷ 0x10 ∷ 0x01 ∷ 0x11 ∷ 0x00 ∷ 0x00 ∷ 0x00 ∷ 0x01 ∷ 0x80 ∷ 0xaf ∷ 0xf8 ∷ []

abbrev pub sixteen_neighbours : List ℕ
sixteen_neighbours = 0x08 ∷ 0x0a ∷ 0x3f ∷ 0xf9 ∷ 0x00 ∷ 0x09 ∷ 0x10 ∷ 0x01 ∷ 0x01 ∷ 0x00 ∷ 0x00 ∷ 0x00 ∷ 0x01 ∷ 0x80 ∷ 0xaf ∷ 0xf9 ∷ []

-- An answer is refusal 21.
abbrev pub Tells21 : PacketRead → Type 0
Tells21 answer = ((told answer).accepted ≡ false) × ((told answer).refusal ≡ refusal.packet_check)

-- What the packet became is damage, and whatever the reader answers of it is refusal 21.
pub record Refused21 (became : List ℕ) : Type 0 where
  pub damaged : Damaged high_first packet became
  pub refused : (answer : PacketRead) → PacketReads became answer → Tells21 answer

pub record WidestRefused : Type 0 where
  pub two : Refused21 two_far_apart
  pub three : Refused21 three_far_apart
  pub sixteen : Refused21 sixteen_neighbours
