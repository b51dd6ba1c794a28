-- Worked out: tables of two columns against a packet and one that the packet reader turns away, and against what a session hands out.
use Rattle.std.specs.Prelude.{ℕ, ◌≡◌, List, [], ◌∷◌, ◌++◌, length}
use Rattle.octets.specs.Numbers.{four_of}
use Rattle.rules.specs.Channel.{Piece, Handed}
use Rattle.rules.specs.Packets.{joined}
use Rattle.rules.specs.BothSides.{out}
use Rattle.sender.specs.Sender.{Framed}
use Rattle.sender.specs.Stream.{next, frames_by}
use Rattle.about_delivery.specs.Link.{Passing, arrives}
use Rattle.about_delivery.specs.Demand.{Reception}
use Rattle.about_delivery.specs.MostLost.{alone}
use Rattle.table.specs.Table.{verdict}
use Rattle.table.specs.declared.Verdict.{Verdict}
use Rattle.table.specs.declared.Verdict.TheVariants.{Passes, Faulty}
use Rattle.about_table.specs.Trained.{handed_out}

-- 16 octets, begun in frame 1 and known with frame 3; and 16 others with the same check.
abbrev pub packet : ℕ → List ℕ
packet apid =
    0x08 ∷ apid ∷ 0xc0 ∷ 0x09 ∷ 0x00 ∷ 0x09 ∷ 0x10 ∷ 0x01 ∷ 0x01 ∷ 0x00 ∷ 0x00 ∷ 0x00 ∷ 0x01 ∷ 0x80 ∷ 0xaf ∷ 0xf9 ∷ []

abbrev pub packets : List Handed
packets = out 1 3 (packet 5) ∷ out 3 3 (packet 6) ∷ []

-- Two columns: octet 1, and octets 14 and 15.
abbrev pub table : List (List ℕ) → List ℕ
table rows = four_of 2 ++ (1 ∷ 1 ∷ 14 ∷ 2 ∷ []) ++ four_of (length rows) ++ joined rows

-- A row with a value of three octets at the end of its eight.
abbrev pub row : ℕ → ℕ → ℕ → ℕ → ℕ → ℕ → List ℕ
row number column claim a b c = four_of number ++ (column ∷ []) ++ four_of claim ++ (0 ∷ 0 ∷ 0 ∷ 0 ∷ 0 ∷ a ∷ b ∷ c ∷ [])

abbrev pub said : List (List ℕ) → Verdict
said rows = verdict (table rows) packets

pub record Example : Type 0 where
  pub none : said [] ≡ Passes
  pub right : said (row 1 0 3 0 0 5 ∷ row 1 1 4 0 0xaf 0xf9 ∷ []) ≡ Passes
  pub early : said (row 1 1 2 0 0xaf 0xf9 ∷ []) ≡ Faulty 74 1
  pub other : said (row 1 1 3 0 0xaf 0xf8 ∷ []) ≡ Faulty 73 1
  pub padding : said (row 1 1 3 1 0xaf 0xf9 ∷ []) ≡ Faulty 73 1
  pub away : said (row 1 0 3 0 0 5 ∷ row 2 0 3 0 0 6 ∷ []) ≡ Faulty 72 2
  pub before : said (row 0 0 3 0 0 5 ∷ []) ≡ Faulty 72 1
  pub behind : said (row 3 0 3 0 0 5 ∷ []) ≡ Faulty 72 1
  pub column : said (row 1 2 3 0 0 5 ∷ []) ≡ Faulty 72 1
  pub order : said (row 1 0 3 0 0 5 ∷ row 0 0 3 0 0 5 ∷ []) ≡ Faulty 71 2
  pub surplus : verdict (table (row 1 0 3 0 0 5 ∷ []) ++ (0 ∷ [])) packets ≡ Faulty 70 0

-- The packet of 16 octets in two frames, 10 octets and 6, both of which arrive.
abbrev pub pieces : List Piece
pieces = frames_by (packet 5 ∷ []) 0 3 (next 10 ∷ next 6 ∷ [])

abbrev pub recording : List Framed
recording = alone 7 pieces

abbrev pub link : List Passing
link = arrives ∷ arrives ∷ []

-- It is known with the second frame, not with the first, although its octet 1 stood there.
pub record Received : Type 0 where
  pub reception : Reception
  pub sent : reception.frames ≡ recording
  pub arrived : reception.link ≡ link
  pub packets : handed_out reception.calls ≡ out 1 2 (packet 5) ∷ []
  pub right : verdict (table (row 1 0 2 0 0 5 ∷ [])) (handed_out reception.calls) ≡ Passes
  pub early : verdict (table (row 1 0 1 0 0 5 ∷ [])) (handed_out reception.calls) ≡ Faulty 74 1
