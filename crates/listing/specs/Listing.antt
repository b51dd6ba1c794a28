-- Document 01, 'The program and its listing': the text that a source's octets make.
use Rattle.std.specs.Prelude.{ℕ, List, [], ◌∷◌, ◌++◌, Bool, ◌||◌, ◌&&◌, length}
use Rattle.octets.specs.Pick.{pick}
use Rattle.packet.specs.Packet.{read_packet}
use Rattle.rules.specs.Channel.{Handed}
use Rattle.stretch.specs.Stretch.{Stretch}
use Rattle.source.specs.Found.{Item, opens, offers, Found, found_in}
use Rattle.source.specs.Scan.{fresh as freshRecording}
use Rattle.session.specs.Open.{opening}
use Rattle.session.specs.Step.{Outcome}
use Rattle.session.specs.Statements.{offered}
use Rattle.session.specs.declared.Session.{Session}
use Rattle.receiver.specs.Run.{roomy}
use Rattle.listing_lines.specs.Text.{answer_text, packet_text, header, bad_recording}

-- A line for each packet.
abbrev pub packets_text : List Handed → List ℕ
packets_text [] = []
packets_text (p ∷ ps) = packet_text p.first p.arrival (length p.packet) (read_packet p.packet) ++ packets_text ps

-- What a session makes of a frame, or of a stretch that was refused before any could be read.
abbrev pub made : Session → Stretch → Outcome
made s x = offered s x roomy

-- A frame's line and those of the packets that it completes.
unfoldable pub outcome_text : Outcome → List ℕ
outcome_text o = answer_text o.session.arrival o.answer ++ packets_text o.packets

-- Once t is accepted the header line, and a fresh session is offered what follows, one after another.
abbrev pub items_text : Session → List Item → List ℕ
items_text s [] = []
items_text s (opens t ∷ xs) = header ++ items_text (opening t 0).session xs
items_text s (offers x ∷ xs) = outcome_text (made s x) ++ items_text (made s x).session xs

-- "bad recording" as soon as it is bad, and at the input's end if a section is cut or frames are missing.
abbrev pub last_line : Found → Bool → List ℕ
last_line f ended = pick (f.bad || (ended && f.cut)) bad_recording []

-- The text of what was found, s being offered it unless t was found before.
unfoldable pub listed : Session → Found → Bool → List ℕ
listed s f ended = items_text s f.items ++ last_line f ended

-- Before t is accepted no frame is found.
abbrev pub fresh : Session
fresh = (opening 0 0).session

-- The text that must have been written once these octets of a recording were read, and the input has ended or not.
abbrev pub listing : List ℕ → Bool → List ℕ
listing octets ended = listed fresh (found_in freshRecording [] octets) ended
