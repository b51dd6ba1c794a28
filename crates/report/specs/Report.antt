-- Document 01, 'Reports': what reading one gives. A packet's source data starts at its octet 14.
use Rattle.std.specs.Prelude.{ℕ, ◌+◌, ◌-◌, List, [], ◌∷◌, ◌++◌, Bool, ◌&&◌, ◌||◌, ltb, Ok, Err, Some, None}
use Rattle.octets.specs.Numbers.{at, word, four}
use Rattle.octets.specs.Parts.{part}
use Rattle.octets.specs.Pick.{pick}
use Rattle.answer.specs.Told.{Told, accept, refuse, TellsNothing, NoneLeftOut, refuse_for}
use Rattle.answer.specs.Refusals as refusal
use Rattle.packet.specs.Packet.{no_packet, packet_numbers, read_packet}
use Rattle.packet.specs.declared.Packet.{Packet}
use Rattle.report.specs.Limits.{last_line, pixels_length, block_length}
use Rattle.report.specs.Places.{first_at, control_at, code_at, rest_at, ticks_at, first_block_at, second_block_at, line_at, pixels_at}
use Rattle.report.specs.Table.{find_pair, success, failure, housekeeping, available, image_line}
use Rattle.report.specs.declared.table.Pair.{Pair}
use Rattle.report.specs.Answers.{Found}
use Rattle.report.specs.declared.Success.{Success}
use Rattle.report.specs.declared.Failure.{Failure}
use Rattle.report.specs.declared.Housekeeping.{Housekeeping}
use Rattle.report.specs.declared.Available.{Available}
use Rattle.report.specs.declared.Line.{Line}
use Rattle.report.specs.declared.Content.{Content}
use Rattle.report.specs.declared.Content.TheVariants as content
use Rattle.report.specs.declared.Report.{Report}
use Rattle.report.specs.Answers.{ReportRead}

-- Two words of the telecommand; a failure adds a code.
abbrev pub success_of : List ℕ → Success
success_of s = record { id = word (at s first_at) (at s (first_at + 1)); control = word (at s control_at) (at s (control_at + 1)) }

abbrev pub failure_of : List ℕ → Failure
failure_of s =
    record {
      id = word (at s first_at) (at s (first_at + 1));
      control = word (at s control_at) (at s (control_at + 1));
      code = word
          (at s code_at) (at s (code_at + 1));
    }

-- SID, then the rest uncut.
abbrev pub housekeeping_of : Packet → List ℕ → Housekeeping
housekeeping_of p s = record { sid = at s first_at; length = p.length - 1 }

abbrev pub rest_of : Housekeeping → List ℕ → List ℕ
rest_of h s = part s rest_at h.length

-- Image number (2), ticks (4), two blocks of 80.
abbrev pub available_of : List ℕ → Available
available_of s =
    record {
      image = word (at s first_at) (at s (first_at + 1));
      ticks = four (at s ticks_at) (at s (ticks_at + 1)) (at s (ticks_at + 2))
          (at s (ticks_at + 3));
    }

abbrev pub first_block : List ℕ → List ℕ
first_block s = part s first_block_at block_length

abbrev pub second_block : List ℕ → List ℕ
second_block s = part s second_block_at block_length

-- Image number (2), line (1), 188 pixels.
abbrev pub line_of : List ℕ → Line
line_of s = record { image = word (at s first_at) (at s (first_at + 1)); line = at s line_at }

abbrev pub pixels_of : List ℕ → List ℕ
pixels_of s = part s pixels_at pixels_length

-- The content of a packet of a known pair.
unfoldable pub content_of : Packet → List ℕ → Content
content_of p s =
    pick (success p) (content.Success (success_of s))
    (pick (failure p) (content.Failure (failure_of s))
    (pick (housekeeping p) (content.Housekeeping (housekeeping_of p s))
    (pick (available p) (content.Available (available_of s)) (content.Line (line_of s)))))

-- The fields of a refused report.
abbrev pub no_report : Report
no_report = record { packet = no_packet; content = content.Success (record { id = 0; control = 0 }) }

-- The numbers of a report's fields, before them which of the five it is, 0 to 4: in a refusal's answer each is 0.
abbrev pub content_numbers : Content → List ℕ
content_numbers (content.Success c) = 0 ∷ c.id ∷ c.control ∷ []
content_numbers (content.Failure c) = 1 ∷ c.id ∷ c.control ∷ c.code ∷ []
content_numbers (content.Housekeeping c) = 2 ∷ c.sid ∷ c.length ∷ []
content_numbers (content.Available c) = 3 ∷ c.image ∷ c.ticks ∷ []
content_numbers (content.Line c) = 4 ∷ c.image ∷ c.line ∷ []

abbrev pub report_numbers : Report → List ℕ
report_numbers r = packet_numbers r.packet ++ content_numbers r.content

-- A reader's answer tells the packet's fields and the content, or the refusal and 0 in every field.
abbrev pub told : ReportRead → Told Report
told (Ok r) = accept r
told (Err n) = refuse_for no_report n

abbrev pub RefusalsTellNothing : Type 0
RefusalsTellNothing = NoneLeftOut report_numbers × TellsNothing told report_numbers

-- Refusal 31: shorter than the pair's least length or longer than its greatest.
abbrev pub length_wrong : Packet → Pair → Bool
length_wrong p e = ltb p.length e.least || ltb e.greatest p.length

-- Refusal 32: an image line above the last.
unfoldable pub line_above : Packet → List ℕ → Bool
line_above p s = image_line p && ltb last_line (at s 16)

-- 30 where the search found no pair, then 31, 32, else the report.
unfoldable pub in_pair : Found → Packet → List ℕ → Told Report
in_pair None p s = refuse no_report refusal.pair
in_pair (Some e) p s =
    pick (length_wrong p e) (refuse no_report refusal.source_length)
    (pick (line_above p s) (refuse no_report refusal.line) (accept (record { packet = p; content = content_of p s })))

-- The report of the packet s, whose fields are p.
unfoldable pub read_content : Packet → List ℕ → Told Report
read_content p s = in_pair (find_pair p.service p.subtype) p s

-- 20 to 22 as the packet's reader gives them, then 30, 31, 32.
unfoldable pub read_report : List ℕ → Told Report
read_report s =
    pick (read_packet s).accepted (read_content (read_packet s).fields s) (refuse no_report (read_packet s).refusal)
