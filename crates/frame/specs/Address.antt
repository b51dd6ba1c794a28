-- Document 01, 'The frame': an address is six characters, each shifted left one bit, low bit 0; then 011, a 4-bit SSID, and a last bit.
use Rattle.std.specs.Prelude.{ℕ, zero, suc, ◌+◌, ◌*◌, ◌/◌, ◌%◌, List, [], ◌∷◌, Bool, not, ◌&&◌, ◌||◌, ltb, leb, eqb}
use Rattle.octets.specs.Numbers.{at}
use Rattle.octets.specs.Pick.{pick}
use Rattle.frame.specs.Limits.{last_ssid}
use Rattle.frame.specs.declared.Callsign.{Callsign}
use Rattle.frame.specs.declared.Address.{Address}

-- A-Z, 0-9.
abbrev pub sign : ℕ → Bool
sign x = (leb 65 x && leb x 90) || (leb 48 x && leb x 57)

abbrev pub space : ℕ
space = 32

-- What may not stand behind a character: anything but a space, or a letter or digit behind another.
abbrev pub breaks : ℕ → ℕ → Bool
breaks before x = not (eqb x space) && (eqb before space || not (sign x))

-- Not one to six of A-Z, 0-9, then only spaces.
abbrev pub callsign_wrong : Callsign → Bool
callsign_wrong c =
    not (sign c.0) || breaks c.0 c.1 || breaks c.1 c.2 || breaks c.2 c.3 || breaks c.3 c.4
    || breaks c.4 c.5

-- What no address may be: an SSID of more than 4 bits, or a wrong callsign.
abbrev pub unfit : Address → Bool
unfit a = ltb last_ssid a.ssid || callsign_wrong a.callsign

-- ---- the seven octets

-- A letter or digit, shifted: the low bit is 0.
abbrev pub shifted_sign : ℕ → Bool
shifted_sign x = eqb (x % 2) 0 && sign (x / 2)

-- The first octet x is wrong if it is neither a letter or digit nor a space (0x40).
abbrev pub start_wrong : ℕ → Bool
start_wrong x = not (eqb x 64) && not (shifted_sign x)

-- A later character's octet x is right if it is a space, or a letter or digit behind another.
abbrev pub next_wrong : ℕ → ℕ → Bool
next_wrong before x = not (eqb x 64) && (eqb before 64 || not (shifted_sign x))

-- The SSID octet is not 011, four bits, the last bit.
abbrev pub ssid_wrong : ℕ → ℕ → Bool
ssid_wrong x last = not (eqb (x / 32) 3) || not (eqb (x % 2) last)

-- The first wrong octet, where none up to place i is wrong and n characters are left; then the SSID octet; 7 for none.
-- Behind a first space only spaces are right: with all of them right the callsign is all blank, and its first octet is wrong.
unfoldable pub wrong_behind : List ℕ → ℕ → ℕ → ℕ → ℕ
wrong_behind s last i zero = pick (eqb (at s 0) 64) 0 (pick (ssid_wrong (at s 6) last) 6 7)
wrong_behind s last i (suc n) = pick (next_wrong (at s i) (at s (i + 1))) (i + 1) (wrong_behind s last (i + 1) n)

-- The first octet of an address that is wrong, 0 to 6, or 7 for none. The last bit is 0 (destination) or 1 (source).
unfoldable pub first_wrong : List ℕ → ℕ → ℕ
first_wrong s last = pick (start_wrong (at s 0)) 0 (wrong_behind s last 0 5)

-- Whether there is one.
abbrev pub address_wrong : List ℕ → ℕ → Bool
address_wrong s last = ltb (first_wrong s last) 7

-- ---- what stands in them, and back

-- The characters, shifted back.
abbrev pub callsign_of : List ℕ → Callsign
callsign_of s = record { 0 = at s 0 / 2; 1 = at s 1 / 2; 2 = at s 2 / 2; 3 = at s 3 / 2; 4 = at s 4 / 2; 5 = at s 5 / 2 }

abbrev pub address_of : List ℕ → Address
address_of s = record { callsign = callsign_of s; ssid = at s 6 / 2 % 16 }

abbrev pub address_octets : Address → ℕ → List ℕ
address_octets a last =
    (2 * a.callsign.0) ∷ (2 * a.callsign.1) ∷ (2 * a.callsign.2) ∷ (2 * a.callsign.3) ∷ (2 * a.callsign.4) ∷
    (2 * a.callsign.5) ∷ (96 + 2 * a.ssid + last) ∷ []
