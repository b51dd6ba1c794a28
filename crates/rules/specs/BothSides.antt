-- Both sides of the rules' lines: cases worked out.
use Rattle.std.specs.Prelude.{ℕ, suc, ◌-◌, ◌≡◌, List, [], ◌∷◌, ◌++◌, length, take, drop, replicate, true, false, Some, None}
use Rattle.std.proofs.Math.Option.{some}
use Rattle.counts.specs.Loss.{Loss}
use Rattle.rules.specs.Channel.{Piece, held_of, nothing, Handed, given, Channel, fresh, step}
use Rattle.rules.specs.Limits.{most_data}
use Rattle.rules.specs.Bounds.{held_wrong}

-- A packet of n octets whose others are all x.
abbrev pub packet_of : ℕ → ℕ → List ℕ
packet_of n x = x ∷ x ∷ x ∷ x ∷ 0 ∷ (n - 7) ∷ replicate (n - 6) x

abbrev pub frame : ℕ → ℕ → List ℕ → Piece
frame count pointer octets = record { count = count; pointer = pointer; octets = octets }

abbrev pub out : ℕ → ℕ → List ℕ → Handed
out first a p = given a (held_of first p)

-- What a channel answers, its next state aside.
pub record Reply : Type 0 where
  pub lost : Loss
  pub packets : List Handed

abbrev pub reply : ℕ → List Handed → Reply
reply n ps = record { lost = Some n; packets = ps }

-- To the first frame.
abbrev pub at_first : List Handed → Reply
at_first ps = record { lost = None; packets = ps }

-- The channel's replies to frames under the arrival numbers a, a + 1 and so on.
abbrev pub replies_to : ℕ → Channel → List Piece → List Reply
replies_to a c [] = []
replies_to a c (f ∷ fs) = record { lost = (step a c f).lost; packets = (step a c f).packets } ∷ replies_to (suc a) (step a c f).next fs

abbrev pub replies : List Piece → List Reply
replies fs = replies_to 1 fresh fs

abbrev one : List ℕ
one = packet_of 16 1

abbrev two : List ℕ
two = packet_of 30 2

-- In step, with these octets held since frame 1 and the last count 0.
abbrev pub within : List ℕ → Channel
within octets = record { last = some 0; in_step = true; held = held_of 1 octets }

-- A frame's most octets of data: fifteen packets of 16 octets, and eleven octets of the next.
abbrev pub full : List ℕ
full = one ++ one ++ one ++ one ++ one ++ one ++ one ++ one ++ one ++ one ++ one ++ one ++ one ++ one ++ one ++ take 11 one

pub record BothSides : Type 0 where
  -- Rules 3 and 5. A packet that ends with its data, then one whose header is split over three frames.
  pub split :
      replies (frame 7 0 one ∷ frame 8 0 (take 3 two) ∷ frame 9 255 (take 1 (drop 3 two)) ∷ frame 10 255 (take 3 (drop 4 two)) ∷ frame 11 23
      (drop 7 two ++ one) ∷ [])
      ≡ at_first (out 1 1 one ∷ []) ∷ reply 0 [] ∷ reply 0 [] ∷ reply 0 [] ∷ reply 0 (out 2 5 two ∷ out 5 5 one ∷ []) ∷ []
  -- Rule 1. A frame, be it empty, is lost inside a packet: the packet goes, and rule 4 takes the frame.
  pub gap :
      replies (frame 255 0 (take 10 one) ∷ frame 1 6 (drop 10 one ++ two) ∷ []) ≡ at_first [] ∷ reply 1 (out 2 2 two ∷ []) ∷ []
  -- The greatest loss that a count can show.
  pub most : replies (frame 3 0 (take 10 one) ∷ frame 3 6 (drop 10 one ++ two) ∷ []) ≡ at_first [] ∷ reply 255 (out 2 2 two ∷ []) ∷ []
  -- Rule 2. A raw frame inside a packet changes nothing.
  pub raw : replies (frame 0 0 (take 10 one) ∷ frame 1 254 two ∷ frame 2 255 (drop 10 one) ∷ []) ≡ at_first [] ∷ reply 0 [] ∷ reply 0
      (out 1 3 one ∷ []) ∷ []
  -- Rule 3. The pointer isn't the place after the held packet: it is dropped, and rule 4 takes the frame.
  pub pointer : replies (frame 0 0 (take 10 one) ∷ frame 1 7 (drop 10 one ++ 9 ∷ two) ∷ []) ≡ at_first [] ∷ reply 0 (out 2 2 two ∷ []) ∷ []
  -- Rule 3. The held packet's length becomes known here and is 15 or 252.
  pub short : replies (frame 0 0 (take 4 (packet_of 15 1)) ∷ frame 1 11 (drop 4 (packet_of 15 1) ++ two) ∷ []) ≡ at_first [] ∷ reply 0
      (out 2 2 two ∷ []) ∷ []
  pub long : replies (frame 0 0 (take 4 (packet_of 252 1)) ∷ frame 1 255 (drop 4 (packet_of 252 1)) ∷ frame 2 0 one ∷ []) ≡ at_first [] ∷ reply
      0 [] ∷ reply 0 (out 3 3 one ∷ []) ∷ []
  -- Rule 4. Out of step, 255 skips all.
  pub skip : replies (frame 0 255 one ∷ frame 1 0 one ∷ []) ≡ at_first [] ∷ reply 0 (out 2 2 one ∷ []) ∷ []
  -- Rule 5. A length of 15 or 252 begun here drops the rest, and what came before stays handed out; 251 passes.
  pub rest : replies (frame 0 0 (one ++ packet_of 15 2 ++ one) ∷ []) ≡ at_first (out 1 1 one ∷ []) ∷ []
  pub left : (step 1 fresh (frame 0 0 (packet_of 15 2))).next.in_step ≡ false
  pub over : replies (frame 0 0 (one ++ packet_of 252 2) ∷ frame 1 255 (drop 200 (packet_of 252 2)) ∷ []) ≡ at_first
      (out 1 1 one ∷ []) ∷ reply 0 [] ∷ []
  pub greatest : replies (frame 0 0 (packet_of 251 2) ∷ []) ≡ at_first (out 1 1 (packet_of 251 2) ∷ []) ∷ []
  -- Most packets of one frame: one held but for its last octet, and fifteen more.
  pub sixteen :
      replies (frame 0 0 (take 15 one) ∷ frame 1 1
      (1 ∷ one ++ one ++ one ++ one ++ one ++ one ++ one ++ one ++ one ++ one ++ one ++ one ++ one ++ one ++ one) ∷ [])
      ≡ at_first [] ∷ reply 0 (out 1 2 one ∷ replicate 15 (out 2 2 one)) ∷ []
  -- Headers: a sixth octet reached counts, whatever becomes of the packet; one that was held before does not.
  pub fifth : (step 1 fresh (frame 0 0 (one ++ take 5 two))).headers ≡ 1
  pub sixth : (step 1 fresh (frame 0 0 (one ++ take 6 two))).headers ≡ 2
  pub sixth-here : (step 2 (within (take 5 one)) (frame 1 11 (drop 5 one ++ one))).headers ≡ 2
  pub sixth-held : (step 2 (within (take 6 one)) (frame 1 10 (drop 6 one ++ one))).headers ≡ 1
  pub wrong-begun : (step 1 fresh (frame 0 0 (one ++ packet_of 15 2 ++ one))).headers ≡ 2
  pub wrong-held : (step 2 (within (take 5 (packet_of 15 1))) (frame 1 255 (drop 5 (packet_of 15 1)))).headers ≡ 1
  pub wrong-pointer : (step 2 (within (take 5 one)) (frame 1 255 (drop 5 one ++ one))).headers ≡ 1
  pub lost-held : (step 2 (within (take 5 one)) (frame 2 255 (drop 5 one))).headers ≡ 0
  pub raw-held : (step 2 (within (take 5 one)) (frame 1 254 two)).headers ≡ 0
  -- The most of a frame by the rules; and of any, where rules 3 and 4 read the same octets.
  pub sixteen-headers : (step 1 fresh (frame 0 0 full)).headers ≡ 16
  pub seventeen-headers : (step 2 (within (take 5 one)) (frame 1 0 full)).headers ≡ 17
  pub most_data_lem : length full ≡ most_data
  -- A first number that a channel was handed in with: as it stands while octets are held, 0 with none.
  pub handed_in_lem : (step 5 (record { last = some 3; in_step = true; held = held_of 9 (take 10 one) })
      (frame 4 255 (drop 10 one))).packets ≡ out 9 5 one ∷ []
  pub none-held : (step 5 (record { last = some 3; in_step = true; held = held_of 9 [] }) (frame 4 254 two)).next.held ≡ nothing
  -- Refusal 4, both sides of each line.
  pub part : held_wrong true 15 one ≡ false
  pub all : held_wrong true 16 one ≡ true
  pub known : held_wrong true 6 (packet_of 15 1) ≡ true
  pub unknown : held_wrong true 5 (packet_of 15 1) ≡ false
  pub full : held_wrong true 250 (packet_of 251 1) ≡ false
  pub beyond : held_wrong true 251 (packet_of 251 1) ≡ true
  pub idle : held_wrong false 0 [] ≡ false
  pub stale : held_wrong false 1 one ≡ true
