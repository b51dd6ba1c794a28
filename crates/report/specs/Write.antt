-- Document 01, 'Reports': what writing one gives, for all five in one definition.
use Rattle.std.specs.Prelude.{ℕ, List, [], ◌∷◌, ◌++◌, Bool, true, false, not, ◌||◌, length, ltb, eqb}
use Rattle.octets.specs.Numbers.{word_of, four_of}
use Rattle.answer.specs.Writer.{Wrote}
use Rattle.answer.specs.Writer.{Written}
use Rattle.packet.specs.Write.{fields_wrong, packet_octets}
use Rattle.packet.specs.declared.Packet.{Packet}
use Rattle.report.specs.Limits.{last_line, pixels_length, block_length}
use Rattle.report.specs.Table.{success, failure, housekeeping, available, image_line}
use Rattle.report.specs.Report.{rest_of, first_block, second_block, pixels_of}
use Rattle.report.specs.declared.Content.{Content}
use Rattle.report.specs.declared.Content.TheVariants.{Success, Failure, Housekeeping, Available, Line}
use Rattle.report.specs.declared.Report.{Report}

-- The numbers at the start of the source data, as octets.
abbrev pub numbers_of : Content → List ℕ
numbers_of (Success c) = word_of c.id ++ word_of c.control
numbers_of (Failure c) = word_of c.id ++ word_of c.control ++ word_of c.code
numbers_of (Housekeeping c) = c.sid ∷ []
numbers_of (Available c) = word_of c.image ++ four_of c.ticks
numbers_of (Line c) = word_of c.image ++ (c.line ∷ [])

-- The strings of octets after them: how long each is, and each as a part of the packet s.
abbrev pub lengths_of : Content → List ℕ
lengths_of (Success c) = []
lengths_of (Failure c) = []
lengths_of (Housekeeping c) = c.length ∷ []
lengths_of (Available c) = block_length ∷ block_length ∷ []
lengths_of (Line c) = pixels_length ∷ []

abbrev pub strings_of : Content → List ℕ → List (List ℕ)
strings_of (Success c) s = []
strings_of (Failure c) s = []
strings_of (Housekeeping c) s = rest_of c s ∷ []
strings_of (Available c) s = first_block s ∷ second_block s ∷ []
strings_of (Line c) s = pixels_of s ∷ []

-- Strings one after another.
abbrev pub joined : List (List ℕ) → List ℕ
joined [] = []
joined (x ∷ xs) = x ++ joined xs

-- The source data of a report, and its packet.
abbrev pub source_data : Content → List (List ℕ) → List ℕ
source_data c strings = numbers_of c ++ joined strings

abbrev pub report_octets : Report → List (List ℕ) → List ℕ
report_octets r strings = packet_octets r.packet (source_data r.content strings)

-- The pair is unknown or another report's.
abbrev pub pair_wrong : Packet → Content → Bool
pair_wrong p (Success c) = not (success p)
pair_wrong p (Failure c) = not (failure p)
pair_wrong p (Housekeeping c) = not (housekeeping p)
pair_wrong p (Available c) = not (available p)
pair_wrong p (Line c) = not (image_line p)

-- A lent string is not as long as it should be.
abbrev pub lengths_wrong : List ℕ → List (List ℕ) → Bool
lengths_wrong [] [] = false
lengths_wrong [] (x ∷ xs) = true
lengths_wrong (n ∷ ns) [] = true
lengths_wrong (n ∷ ns) (x ∷ xs) = not (eqb (length x) n) || lengths_wrong ns xs

-- The line is above the last.
abbrev pub line_wrong : Content → Bool
line_wrong (Success c) = false
line_wrong (Failure c) = false
line_wrong (Housekeeping c) = false
line_wrong (Available c) = false
line_wrong (Line c) = ltb last_line c.line

abbrev pub content_wrong : Packet → Content → List (List ℕ) → Bool
content_wrong p c strings = pair_wrong p c || lengths_wrong (lengths_of c) strings || line_wrong c

-- Refusal 51, of a report and lent strings.
abbrev pub report_wrong : Report → List (List ℕ) → Bool
report_wrong r strings =
    content_wrong r.packet r.content strings
    || fields_wrong r.packet (length (source_data r.content strings))

-- The contract of every report's writer: the packet's fields, the content and the lent strings, the output before and after.
abbrev pub WroteReport : Packet → Content → List (List ℕ) → List ℕ → Written → List ℕ → Type 0
WroteReport p c strings out r out' =
    let report : Report = record { packet = p; content = c } in
    Wrote (report_wrong report strings) (report_octets report strings) out r out'
