-- 1. What a sender by the rules writes on one channel, document 01, 'The session': its packets end to end, from the first octet of the
-- first packet, octets in order, cut into frames as it chooses.
use Rattle.std.specs.Prelude.{ℕ, suc, ◌+◌, ◌%◌, Bool, true, false, List, [], ◌∷◌, ◌++◌, length, take, drop, replicate}
use Rattle.frame.specs.Limits.{raw_data, none_starts}
use Rattle.rules.specs.Channel.{Piece}
use Rattle.rules.specs.Packets.{joined}

-- For each octet of the packets end to end, whether a packet starts there.
abbrev pub heads : List (List ℕ) → List Bool
heads [] = []
heads ([] ∷ ps) = heads ps
heads ((x ∷ p) ∷ ps) = true ∷ replicate (length p) false ++ heads ps

-- The place of the first start, the first place being i; 255 if there is none.
abbrev pub first_from : ℕ → List Bool → ℕ
first_from i [] = none_starts
first_from i (true ∷ starts) = i
first_from i (false ∷ starts) = first_from (suc i) starts

-- What the sender chooses for a frame: raw data, or how many of the next octets it takes (0: an empty frame).
pub data Choice : Type 0 where
  raw : List ℕ → Choice
  next : ℕ → Choice

-- Counts go up by one modulo 256.
abbrev pub next_count : ℕ → ℕ
next_count c = (c + 1) % 256

-- The channel's frames by these choices: sent octets of the packets have been sent, and the next count is `count`.
abbrev pub frames_by : List (List ℕ) → ℕ → ℕ → List Choice → List Piece
frames_by ps sent count [] = []
frames_by ps sent count (raw xs ∷ choices) =
    record { count = count; pointer = raw_data; octets = xs } ∷ frames_by ps sent (next_count count) choices
frames_by ps sent count (next n ∷ choices) =
    record { count = count; pointer = first_from 0 (take n (drop sent (heads ps))); octets = take n (drop sent (joined ps)) }
    ∷ frames_by ps (sent + n) (next_count count) choices
