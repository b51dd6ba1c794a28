-- What is listed of the two streams that about_streams works out (about_streams specs/Worked).
use Rattle.std.specs.Prelude.{ℕ, ◌+◌, ◌≡◌, List, [], ◌∷◌, ◌++◌, Bool, length}
use Rattle.stretch.specs.Stretch.{most_kept}
use Rattle.source.specs.Scan.{fresh_kiss, fresh_bits}
use Rattle.source.specs.declared.Source.{Source}
use Rattle.receiver.specs.Receive.{fresh_stream}
use Rattle.listing_lines.specs.Text.{header, line, dash}
use Rattle.listing.specs.Promised.{to_come}
use Rattle.about_streams.specs.Worked.{kiss_stream, bits_stream}

-- A number of one digit.
abbrev pub digit : ℕ → List ℕ
digit n = (48 + n) ∷ []

-- "21" and "16".
abbrev pub check_wrong : List ℕ
check_wrong = 50 ∷ 49 ∷ []

abbrev pub sixteen : List ℕ
sixteen = 49 ∷ 54 ∷ []

-- What is refused with the words a, b and c has a line and a number as a frame has: "1 18 - - - -", "2 0 0 ? ? 0", "3 19 - - - -",
-- "4 0 0 0 0 1", "Q 2 4 21 16", "5 121 - - - -", "6 0 0 1 1 1", "Q 6 6 21 16". (The two packets have no check of their own.)
abbrev pub worked_lines : List ℕ → List ℕ → List ℕ → List ℕ
worked_lines a b c =
    header
    ++ line (digit 1) (a ∷ dash ∷ dash ∷ dash ∷ dash ∷ [])
    ++ line (digit 2) (digit 0 ∷ digit 0 ∷ (63 ∷ []) ∷ (63 ∷ []) ∷ digit 0 ∷ [])
    ++ line (digit 3) (b ∷ dash ∷ dash ∷ dash ∷ dash ∷ [])
    ++ line (digit 4) (digit 0 ∷ digit 0 ∷ digit 0 ∷ digit 0 ∷ digit 1 ∷ [])
    ++ line (81 ∷ []) (digit 2 ∷ digit 4 ∷ check_wrong ∷ sixteen ∷ [])
    ++ line (digit 5) (c ∷ dash ∷ dash ∷ dash ∷ dash ∷ [])
    ++ line (digit 6) (digit 0 ∷ digit 0 ∷ digit 1 ∷ digit 1 ∷ digit 1 ∷ [])
    ++ line (81 ∷ []) (digit 6 ∷ digit 6 ∷ check_wrong ∷ sixteen ∷ [])

-- With 18, 19 and 121; and with 17, 16 and 11.
abbrev pub kiss_lines : List ℕ
kiss_lines = worked_lines (49 ∷ 56 ∷ []) (49 ∷ 57 ∷ []) (49 ∷ 50 ∷ 49 ∷ [])

abbrev pub bits_lines : List ℕ
bits_lines = worked_lines (49 ∷ 55 ∷ []) (49 ∷ 54 ∷ []) (49 ∷ 49 ∷ [])

-- With a time of two octets, in whatever pieces the stream comes (listing's `PiecesAreListed`), and whether it has ended or not.
abbrev pub ListsTo : Source → List ℕ → List ℕ → Type 0
ListsTo s stream text = (kept : List ℕ) (ended : Bool) → length kept ≡ most_kept
    → header ++ to_come (fresh_stream s 2) kept stream ended ≡ text

pub record WorkedListing : Type 0 where
  pub of_kiss_lem : ListsTo fresh_kiss kiss_stream kiss_lines
  pub of_bits_lem : ListsTo fresh_bits bits_stream bits_lines
