-- Document 02, M-101: which octet is told of a header that is wrong.
use Rattle.std.specs.Prelude.{ℕ, ◌+◌, ◌≤◌, ◌<◌, ◌≡◌, List, false, ◌⊎◌, length, take, replicate}
use Rattle.answer.specs.Told.{Told}
use Rattle.answer.specs.Refusals as no
use Rattle.frame.specs.Address.{space, unfit, first_wrong, address_octets}
use Rattle.frame.specs.Frame.{read_frame}
use Rattle.frame.specs.declared.Callsign.{Callsign}
use Rattle.frame.specs.declared.Address.{Address}
use Rattle.frame.specs.declared.Frame.{Frame}

-- ---- of an address

-- Six octets 0x40 before the SSID octet.
abbrev pub AllBlank : List ℕ → Type 0
AllBlank s = take 6 s ≡ replicate 6 64

abbrev pub blank_callsign : Callsign
blank_callsign = record { 0 = space; 1 = space; 2 = space; 3 = space; 4 = space; 5 = space }

-- The first n octets of s stand so in what the writer gives for some address that is fit, or whose callsign is all blank. (A space is
-- never blamed before a letter or digit, so spaces at the start are taken for the beginning of a blank callsign.)
pub record StandsIn (n : ℕ) (s : List ℕ) (last : ℕ) : Type 0 where
  pub address : Address
  pub fit : (unfit address ≡ false) ⊎ (address.callsign ≡ blank_callsign)
  pub octets : take n (address_octets address last) ≡ take n s

-- An all-blank callsign is told at its first octet. Of any other address the octets before the one told stand so in an address, and
-- with it they do not: it is the first that is wrong. (That none is told exactly if the writer gives the address: `RightIsWritten`.)
pub record First (s : List ℕ) (last : ℕ) : Type 0 where
  pub blank : AllBlank s → first_wrong s last ≡ 0
  pub before : StandsIn (first_wrong s last) s last
  pub wrong : (AllBlank s → ⊥) → first_wrong s last < 7 → StandsIn (first_wrong s last + 1) s last → ⊥

abbrev pub TellsFirst : Type 0
TellsFirst = (s : List ℕ) (last : ℕ) → length s ≡ 7 → last ≤ 1 → First s last

-- ---- of a frame

-- The octet is one of the destination's, 0 to 6, with 120, one of the source's, 7 to 13, with 121, else 0.
pub record OctetOf (r : Told Frame) : Type 0 where
  pub destination : r.refusal ≡ no.frame_destination → r.octet ≤ 6
  pub source : r.refusal ≡ no.frame_source → (7 ≤ r.octet) × (r.octet ≤ 13)
  pub other : (r.refusal ≡ no.frame_destination → ⊥) → (r.refusal ≡ no.frame_source → ⊥) → r.octet ≡ 0

abbrev pub TellsOctet : Type 0
TellsOctet = (t : ℕ) (s : List ℕ) → OctetOf (read_frame t s)
