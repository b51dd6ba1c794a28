-- What holds of both checks: said once, over the bit order and the mask.
use Rattle.std.specs.Prelude.{◌≡◌, Bool, false, List, [], ◌∷◌, ◌++◌, ℕ, ◌≤◌, ◌<◌, length}
use Rattle.octets.specs.Numbers.{at}
use Rattle.bits.specs.Rows.{plus, zeros, ones, Order, number_of}
use Rattle.crc.specs.Check.{run, check, packet_check, frame_check, octets_of, with_check, before, check_wrong}
use Rattle.bits.specs.Rows.Order.{high_first, low_first}

-- Two octets at least.
pub record Octets (octets : List ℕ) : Type 0 where
  pub small : (i : ℕ) → at octets i < 256
  pub two : 2 ≤ length octets

-- What the check gives over octets with their own check behind them.
unfoldable pub residue : Order → List Bool → ℕ
residue o mask = number_of o (plus (run (zeros 16) mask) mask)

-- The check's own two octets give the residue, and no other two octets do.
abbrev pub Own : Type 0
Own = (o : Order) (mask : List Bool) → length mask ≡ 16 → (octets : List ℕ) → check o mask (with_check o mask octets) ≡ residue o mask

abbrev pub OnlyOwn : Type 0
OnlyOwn =
    (o : Order) (mask : List Bool) → length mask ≡ 16 → (octets : List ℕ) (x y : ℕ) → x < 256 → y < 256
    → check o mask (octets ++ (x ∷ y ∷ [])) ≡ residue o mask → x ∷ y ∷ [] ≡ octets_of o (check o mask octets)

-- A reader finds the check where a writer put it, and what it accepts is what a writer gives.
abbrev pub Found : Type 0
Found = (o : Order) (mask : List Bool) (octets : List ℕ) → check_wrong o mask (with_check o mask octets) ≡ false

abbrev pub Accepted : Type 0
Accepted =
    (o : Order) (mask : List Bool) (octets : List ℕ) → Octets octets
    → check_wrong o mask octets ≡ false → with_check o mask (before octets) ≡ octets

-- To test the last two octets, or the check over all of them for the residue, is the same.
abbrev pub SameTest : Type 0
SameTest =
    (o : Order) (mask : List Bool) → length mask ≡ 16 → (octets : List ℕ) → Octets octets
    → (check_wrong o mask octets ≡ false → check o mask octets ≡ residue o mask)
    × (check o mask octets ≡ residue o mask → check_wrong o mask octets ≡ false)

-- Over a whole packet the check is 0, over a whole frame 0x0F47.
abbrev pub PacketOwn : Type 0
PacketOwn = (octets : List ℕ) → packet_check (with_check high_first (zeros 16) octets) ≡ 0

abbrev pub FrameOwn : Type 0
FrameOwn = (octets : List ℕ) → frame_check (with_check low_first (ones 16) octets) ≡ 0x0f47
