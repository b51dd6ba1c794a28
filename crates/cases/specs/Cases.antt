-- Document 01, 'Both sides of the line': the twelve marked cases, each a row of what the definition gives and what the paper says.
use Rattle.std.specs.Prelude.{ℕ, ◌≡◌, Bool, true, false, List, [], ◌∷◌, ◌++◌, map, replicate, Some}
use Rattle.std.proofs.Math.Option.{some}
use Rattle.octets.specs.Numbers.{at}
use Rattle.answer.specs.Told.{Told, accept}
use Rattle.crc.specs.Check.{packet_check}
use Rattle.counts.specs.Loss.{Loss}
use Rattle.counts.specs.Lost.{lost_since}
use Rattle.frame.specs.Address.{address_octets}
use Rattle.frame.specs.Frame.{status_wrong}
use Rattle.frame.specs.declared.Address.{Address}
use Rattle.packet.specs.Packet.{fields_of}
use Rattle.sequence.specs.Sequence.{entries, Between, missing, outcome}
use Rattle.image.specs.Line.{start}

-- Numbers, a loss, what an answer tells, or whether something is wrong.
pub data Said : Type 0 where
  numbers : List ℕ → Said
  lost : Loss → Said
  answer : Told Between → Said
  wrong : Bool → Bool → Said

pub record Row : Type 0 where
  pub gives : Said
  pub says : Said

abbrev pub row : Said → Said → Row
row gives says = record { gives = gives; says = says }

abbrev pub one : ℕ → Said
one n = numbers (n ∷ [])

-- 001's octets.
abbrev pub octets001 : List ℕ
octets001 =
    0x06 ∷ 0x00 ∷ 0x0c ∷ 0xf0 ∷ 0x00 ∷ 0x04 ∷ 0x00 ∷ 0x55 ∷ 0x88 ∷ 0x73 ∷ 0xc9 ∷ 0x00 ∷ 0x00 ∷ 0x05 ∷ 0x21 ∷ []

-- The address of the callsign "A", then spaces, with SSID 3.
abbrev pub a : Address
a = record { callsign = record { 0 = 65; 1 = 32; 2 = 32; 3 = 32; 4 = 32; 5 = 32 }; ssid = 3 }

-- The octets of a packet up to its time 00 00 00 01 80.
abbrev pub up_to_time : List ℕ
up_to_time =
    0x08 ∷ 0x05 ∷ 0xc0 ∷ 0x09 ∷ 0x00 ∷ 0x09 ∷ 0x10 ∷ 0x01 ∷ 0x01 ∷ 0x00 ∷ 0x00 ∷ 0x00 ∷ 0x01 ∷ 0x80 ∷ []

-- What the second of two calls for APID 5 tells, the first made on a list without any count.
abbrev pub after_first : ℕ → ℕ → Told Between
after_first first second = (outcome 5 second (outcome 5 first (replicate entries 0)).list).answer

abbrev pub table : List Row
table =
    -- packet check over no octets, 0xFFFF
    row (one (packet_check [])) (one 0xffff)
    -- 001's octets 06 00 0C F0 00 04 00 55 88 73 C9 00 00 05 21 give 0x75FB
    ∷ row (one (packet_check octets001)) (one 0x75fb)
    -- with 75 FB appended, 0
    ∷ row (one (packet_check (octets001 ++ (0x75 ∷ 0xfb ∷ [])))) (one 0)
    -- "A" is octet 0x82, space 0x40
    ∷ row (numbers (at (address_octets a 1) 0 ∷ at (address_octets a 1) 1 ∷ [])) (numbers (0x82 ∷ 0x40 ∷ []))
    -- source SSID 3 is 0x67
    ∷ row (one (at (address_octets a 1) 6)) (one 0x67)
    -- t = 5, status 0xC0 right, 0xB0 wrong
    ∷ row (wrong (status_wrong 5 0xc0) (status_wrong 5 0xb0)) (wrong false true)
    -- channel count 255 then 0, lost 0
    ∷ row (lost (lost_since (some 255) 0)) (lost (Some 0))
    -- 254 then 1, lost 2
    ∷ row (lost (lost_since (some 254) 1)) (lost (Some 2))
    -- sequence 16,383 then 0, missing 0
    ∷ row (answer (after_first 16383 0)) (answer (accept (missing 0)))
    -- 5 then 9, missing 3
    ∷ row (answer (after_first 5 9)) (answer (accept (missing 3)))
    -- time 00 00 00 01 80 is 384
    ∷ row (one (fields_of up_to_time).time) (one 384)
    -- line 119 starts at 22,372
    ∷ row (one (start 119)) (one 22372)
    ∷ []

-- The two columns are equal.
abbrev pub AsThePaperSays : Type 0
AsThePaperSays = map (λ (r : Row). r.gives) table ≡ map (λ (r : Row). r.says) table
