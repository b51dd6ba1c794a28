-- Rule 5 a packet at a time, for code that cuts packets out of octets.
use Rattle.std.specs.Prelude.{ℕ, zero, suc, ◌+◌, ◌≡◌, List, [], ◌∷◌, ◌++◌, Bool, true, false, cond, leb, length, take, drop}
use Rattle.rules.specs.Channel.{Held, held_of, nothing, begun_in, cleared, Work, holding, feed, standing, unfinished, whole}
use Rattle.rules.specs.Channel.{wrong, length_in}
use Rattle.rules.specs.Packets.{bare, firsts}

-- What of a channel's work does not depend on arrival numbers: in step or not, the octets held, the packets handed out, the headers.
pub record Cut : Type 0 where
  pub in_step : Bool
  pub held : List ℕ
  pub packets : List (List ℕ)
  pub headers : ℕ

abbrev pub cut_by : Work → Cut
cut_by w = record { in_step = w.in_step; held = w.held.octets; packets = bare w.packets; headers = w.headers }

-- Rule 5 on octets that begin at a packet's first octet.
unfoldable pub cut_of : List ℕ → Cut
cut_of s = cut_by (feed 0 (holding nothing [] 0) s)

-- The same with packets cut and headers completed before; each packet has a header.
abbrev pub after : List (List ℕ) → ℕ → Cut → Cut
after ps n c = record { in_step = c.in_step; held = c.held; packets = ps ++ c.packets; headers = n + c.headers }

abbrev pub behind : List (List ℕ) → Cut → Cut
behind ps c = after ps (length ps) c

-- The header of a packet of which n octets are there: one, if it is whole.
abbrev pub header : ℕ → ℕ
header n = cond (leb 6 n) 1 0

-- The first numbers of n packets that frame a completes, the first of them begun in frame f; and of what is left behind them.
abbrev pub firsts_of : ℕ → ℕ → ℕ → List ℕ
firsts_of f a zero = []
firsts_of f a (suc n) = f ∷ firsts_of a a n

abbrev pub first_behind : ℕ → ℕ → ℕ → ℕ
first_behind f a zero = f
first_behind f a (suc n) = a

-- Only the first packet of a frame, or else what is left, goes on from what is held: by how many packets are handed out.
pub record Begins (f a : ℕ) (w : Work) : Type 0 where
  pub packets : firsts w.packets ≡ firsts_of f a (length w.packets)
  pub left : cleared w.held ≡ cleared (held_of (first_behind f a (length w.packets)) w.held.octets)

abbrev pub FirstsOn : Type 0
FirstsOn = (a n : ℕ) (h : Held) (xs : List ℕ) → Begins (begun_in a h.first (length h.octets)) a (feed a (holding h [] n) xs)

-- What is held and the frame's octets are cut as one, under any arrival number; a header that was held whole is none of this frame's.
abbrev pub CutsOn : Type 0
CutsOn = (a n : ℕ) (h : Held) (xs : List ℕ) → standing h.octets ≡ unfinished
    → after [] (header (length h.octets)) (cut_by (feed a (holding h [] n) xs)) ≡ after [] n (cut_of (h.octets ++ xs))

-- An unfinished packet is held; a wrong length drops the rest; a whole packet is handed out and the rest is cut.
abbrev pub CutsUnfinished : Type 0
CutsUnfinished =
    (s : List ℕ) → standing s ≡ unfinished → cut_of s ≡ record { in_step = true; held = s; packets = []; headers = header (length s) }

abbrev pub CutsWrong : Type 0
CutsWrong = (s : List ℕ) → standing s ≡ wrong → cut_of s ≡ record { in_step = false; held = []; packets = []; headers = 1 }

abbrev pub CutsWhole : Type 0
CutsWhole = (s : List ℕ) → standing s ≡ whole → cut_of s ≡ behind (take (length_in s) s ∷ []) (cut_of (drop (length_in s) s))
