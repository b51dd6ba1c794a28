-- M-113: lines in any order.
use Rattle.std.specs.Prelude.{ℕ, ◌≡◌, Ok, Err}
use mathlib.Core.List.{List, [], ◌∷◌, map, Memᴰ, Permᴰ}
use Rattle.answer.specs.declared.Reason.TheVariants.{LineHeld}
use Rattle.report.specs.Report.{pixels_of}
use Rattle.image.specs.Line.{Image, Room}
use Rattle.image.specs.Placing.{Places}
use Rattle.image.specs.Answers.{Placed}
use Rattle.about_image.specs.Placings.{Arrived, line, row, Accepted, Alike, Agreeing, Placings, Filled}

-- Each packet is accepted: the answer is its line.
abbrev pub answer_of : Arrived → Placed
answer_of a = Ok (line a)

-- The same packets with the same numbers, in any order and each as often as one likes.
abbrev pub Same : List Arrived → List Arrived → Type 0
Same s t = (a : Arrived) → (Memᴰ a s → Memᴰ a t) × (Memᴰ a t → Memᴰ a s)

-- A list in another order has the same packets.
abbrev pub Reordered : Type 0
Reordered = (s t : List Arrived) → Permᴰ s t → Same s t

-- Packets that agree are accepted throughout, and leave what `Filled` says;
abbrev pub Fills : Type 0
Fills =
    (wanted : ℕ) (held after : Image) (s : List Arrived) (xs : List Placed) → Agreeing wanted held s → Placings wanted held s xs after
    → (xs ≡ map answer_of s) × Filled held s after

-- which is one image.
abbrev pub OneImage : Type 0
OneImage = (held i j : Image) (s t : List Arrived) → Room held → Same s t → Filled held s i → Filled held t j → i ≡ j

-- So any order of such a list is accepted throughout and leaves the same pixels and line numbers.
abbrev pub AnyOrder : Type 0
AnyOrder =
    (wanted : ℕ) (held i j : Image) (s t : List Arrived) (xs ys : List Placed) → Same s t → Agreeing wanted held s
    → Placings wanted held s xs i → Placings wanted held t ys j → (xs ≡ map answer_of s) × (ys ≡ map answer_of t) × (i ≡ j)

-- Two packets, neither in conflict with a line held, that don't give one line two sets of pixels: both are accepted in either order.
abbrev pub EitherOrder : Type 0
EitherOrder =
    (wanted : ℕ) (held i j : Image) (a b : Arrived) (xs ys : List Placed) → Accepted wanted held a → Accepted wanted held b → Alike a b
    → Placings wanted held (a ∷ b ∷ []) xs i → Placings wanted held (b ∷ a ∷ []) ys j
    → (xs ≡ answer_of a ∷ answer_of b ∷ []) × (ys ≡ answer_of b ∷ answer_of a ∷ []) × (i ≡ j)

-- The same packet with the same arrival number again is accepted and changes nothing.
abbrev pub Again : Type 0
Again =
    (wanted : ℕ) (held i j : Image) (a : Arrived) (x y : Placed) → Accepted wanted held a
    → Places a.packet a.arrival wanted held x i → Places a.packet a.arrival wanted i y j → (y ≡ answer_of a) × (j ≡ i)

-- Without agreement the order matters: of two sets of pixels of one line the first stays, and the second is refused with 42.
abbrev pub Conflicts : Type 0
Conflicts =
    (wanted : ℕ) (held i j : Image) (a b : Arrived) (xs ys : List Placed) → Accepted wanted held a → Accepted wanted held b
    → line a ≡ line b → (pixels_of a.packet ≡ pixels_of b.packet → ⊥)
    → Placings wanted held (a ∷ b ∷ []) xs i → Placings wanted held (b ∷ a ∷ []) ys j
    → (xs ≡ answer_of a ∷ Err LineHeld ∷ []) × (row i (line a) ≡ pixels_of a.packet) × (i ≡ j → ⊥)
