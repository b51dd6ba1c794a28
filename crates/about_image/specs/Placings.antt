-- Line packets placed one after the other, and the image that they leave.
use Rattle.std.specs.Prelude.{ℕ, ◌≤◌, ◌<◌, ◌≡◌, true, length, drop}
use mathlib.Core.List.{List, [], ◌∷◌, Memᴰ}
use Rattle.octets.specs.Numbers.{at}
use Rattle.octets.specs.Parts.{part}
use Rattle.report.specs.Report.{pixels_of, line_of}
use Rattle.image.specs.Line.{line_pixels, image_lines, image_octets, start, Image}
use Rattle.image.specs.Placing.{outcome, Places}
use Rattle.image.specs.Answers.{Placed}

-- A packet with its arrival number.
pub record Arrived : Type 0 where
  pub packet : List ℕ
  pub arrival : ℕ

-- The line that an image line's packet is of.
abbrev pub line : Arrived → ℕ
line a = (line_of a.packet).line

-- The 188 pixels of line n.
abbrev pub row : Image → ℕ → List ℕ
row i n = part i.pixels (start n) line_pixels

-- `place` accepts the packet, on what is held: a line packet of the wanted image, in conflict with no line held.
abbrev pub Accepted : ℕ → Image → Arrived → Type 0
Accepted wanted held a = (outcome a.packet a.arrival wanted held).answer.accepted ≡ true

-- Two packets do not give one line two sets of pixels.
abbrev pub Alike : Arrived → Arrived → Type 0
Alike a b = line a ≡ line b → pixels_of a.packet ≡ pixels_of b.packet

-- Packets that are each accepted on what is held, and of which no two give one line two sets of pixels.
pub record Agreeing (wanted : ℕ) (held : Image) (s : List Arrived) : Type 0 where
  pub accepted : (a : Arrived) → Memᴰ a s → Accepted wanted held a
  pub alike : (a b : Arrived) → Memᴰ a s → Memᴰ b s → Alike a b

-- Calls of `place`, each on what the one before left, with any results that its contract allows: the packets, the answers, the last image.
pub data Placings (wanted : ℕ) : Image → List Arrived → List Placed → Image → Type 0 where
  done : {i : Image} → Placings wanted i [] [] i
  next : {i j k : Image} {a : Arrived} {s : List Arrived} {x : Placed} {xs : List Placed}
      → Places a.packet a.arrival wanted i x j → Placings wanted j s xs k → Placings wanted i (a ∷ s) (x ∷ xs) k

-- k is a number of line n: the one held, 0 aside, or that of a packet of the line.
pub data Number (held : Image) (s : List Arrived) (n k : ℕ) : Type 0 where
  of_held : 0 < k → at held.lines n ≡ k → Number held s n k
  of_packet : (a : Arrived) → Memᴰ a s → line a ≡ n → a.arrival ≡ k → Number held s n k

-- The smallest of some numbers, 0 if there is none.
pub data Smallest (N : ℕ → Type 0) (k : ℕ) : Type 0 where
  smallest : N k → ((m : ℕ) → N m → k ≤ m) → Smallest N k
  none : ((m : ℕ) → N m → ⊥) → k ≡ 0 → Smallest N k

-- The image that packets leave, whatever their order.
pub record Filled (held : Image) (s : List Arrived) (after : Image) : Type 0 where
  -- A line has the pixels of its packets; a line without a packet stays.
  pub given : (a : Arrived) → Memᴰ a s → row after (line a) ≡ pixels_of a.packet
  pub others : (n : ℕ) → n < image_lines → ((a : Arrived) → Memᴰ a s → line a ≡ n → ⊥) → row after n ≡ row held n
  -- Its number is the smallest of theirs and the one held.
  pub numbered : (n : ℕ) → n < image_lines → Smallest (Number held s n) (at after.lines n)
  -- Longer buffers are untouched beyond.
  pub pixels-length : length after.pixels ≡ length held.pixels
  pub lines-length : length after.lines ≡ length held.lines
  pub pixels-beyond : drop image_octets after.pixels ≡ drop image_octets held.pixels
  pub lines-beyond : drop image_lines after.lines ≡ drop image_lines held.lines
