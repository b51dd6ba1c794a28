-- What holds of every stream.
use Rattle.std.specs.Prelude.{ℕ, ◌≡◌, List, [], ◌∷◌, ◌++◌, map, false, length, drop}
use Rattle.std.proofs.Math.Option.{some}
use Rattle.bits.specs.Rows.{ones}
use Rattle.bits.specs.Rows.Order.{low_first}
use Rattle.crc.specs.Check.{check_wrong}
use Rattle.answer.specs.Refusals as no
use Rattle.frame.specs.Frame.{read_frame}
use Rattle.stretch.specs.Stretch.{Stretch, found, unread, clipped, most_kept}
use Rattle.kiss.specs.Stream.{mark, unescaped, escaped, stretches_in}
use Rattle.kiss.specs.Reader.{Standing, standing, fresh, scanned, told_by}

-- ---- in any pieces

-- Scans of the pieces of a stream, one after another, as often as there is something left of a piece; and what they tell.
pub data Scans : Standing → List (List ℕ) → List Stretch → Type 0 where
  none : {a : Standing} → Scans a [] []
  scan : {a : Standing} {w : List ℕ} {pieces : List (List ℕ)} {told : List Stretch}
      → Scans (scanned a w).standing (drop (scanned a w).used w ∷ pieces) told → Scans a (w ∷ pieces) (told_by (scanned a w) ++ told)
  next : {a : Standing} {pieces : List (List ℕ)} {told : List Stretch} → Scans a pieces told → Scans a ([] ∷ pieces) told

abbrev pub joined : List (List ℕ) → List ℕ
joined [] = []
joined (w ∷ pieces) = w ++ joined pieces

-- However a stream is cut, what is told of it is what it holds: each stretch as soon as its 0xC0 has come.
abbrev pub InAnyPieces : Type 0
InAnyPieces =
    (kept : List ℕ) (pieces : List (List ℕ)) (told : List Stretch) → length kept ≡ most_kept
    → Scans (standing fresh kept) pieces told → told ≡ map clipped (stretches_in (joined pieces))

-- ---- 18

abbrev pub NoMark : List ℕ → Type 0
NoMark [] = Unit {0}
NoMark (x ∷ s) = (x ≡ mark → ⊥) × NoMark s

-- Octets that are escaped have no 0xC0 and are found again; and none but such are accepted.
pub record Escapes (s : List ℕ) : Type 0 where
  pub inside : NoMark (escaped s)
  pub again : unescaped (escaped s) ≡ some s
  pub only : (p : List ℕ) → NoMark p → unescaped p ≡ some s → escaped s ≡ p

abbrev pub EscapesUndone : Type 0
EscapesUndone = (s : List ℕ) → Escapes s

-- ---- 11

-- What holds of each frame among stretches.
abbrev pub Each : (List ℕ → Type 0) → List Stretch → Type 0
Each P [] = Unit {0}
Each P (found x ∷ xs) = P x × Each P xs
Each P (unread n ∷ xs) = Each P xs

-- A frame that is found has its own check,
abbrev pub ChecksRight : Type 0
ChecksRight = (s : List ℕ) → Each (λ x. check_wrong low_first (ones 16) x ≡ false) (stretches_in s)

-- so that no frame reader ever answers 11 of what a reader tells.
abbrev pub Never11 : Type 0
Never11 = (t : ℕ) (s : List ℕ) → Each (λ x. (read_frame t x).refusal ≡ no.frame_check → ⊥) (map clipped (stretches_in s))
