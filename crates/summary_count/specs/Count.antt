-- What a session's answers and the packets handed out with them add up to, in lent lists: counters by what they count, packets by a key
-- with how many there were of it, and of each APID the last source sequence count.
use Rattle.std.specs.Prelude.{ℕ, zero, suc, ◌+◌, ◌-◌, ◌*◌, ◌≡◌, Bool, ◌||◌, ◌&&◌, List, [], ◌∷◌, length, set, take, eqb, ltb, Ok, Err, Some, None}
use Rattle.octets.specs.Numbers.{at}
use Rattle.octets.specs.Pick.{pick}
use Rattle.answer.specs.Told.{Told}
use Rattle.counts.specs.Loss.{Loss}
use Rattle.packet.specs.Packet.{read_packet}
use Rattle.packet.specs.declared.Packet.{Packet}
use Rattle.report.specs.Table.{image_line}
use Rattle.report.specs.Report.{read_report}
use Rattle.report.specs.declared.Report.{Report}
use Rattle.report.specs.declared.Content.{Content}
use Rattle.report.specs.declared.Content.TheVariants as content
use Rattle.image.specs.Line.{image_lines}
use Rattle.sequence.specs.Sequence.{Between, Outcome, outcome}
use Rattle.sequence.specs.Sequence as between
use Rattle.rules.specs.Packets.{cut}
use Rattle.session.specs.declared.Accepted.{Accepted}
use Rattle.session.specs.Answers.{StepAnswer}
use Rattle.summary_count.specs.Counters as place

-- A counter has 64 bits, and stays at its largest number.
abbrev pub largest : ℕ
largest = 18446744073709551615

unfoldable pub saturated : ℕ → ℕ → ℕ
saturated x n = pick (ltb (largest - x) n) largest (x + n)

-- The counter at index i rises by n, if there is one.
unfoldable pub added : List ℕ → ℕ → ℕ → List ℕ
added counts i n = set counts i (saturated (at counts i) n)

-- A known loss adds to the one counter, an unknown one to the other.
abbrev pub loss_added : List ℕ → ℕ → ℕ → Loss → List ℕ
loss_added counts known unknown None = added counts unknown 1
loss_added counts known unknown (Some n) = added counts known n

-- An accepted frame: over all, by channel, its loss there, its loss over all.
unfoldable pub accepted : List ℕ → ℕ → Loss → Loss → List ℕ
accepted counts channel lost master =
    loss_added
    (loss_added (added (added counts place.accepted_frames 1) (place.channel_frames + channel) 1) (place.channel_lost + channel)
    (place.channel_unknown + channel) lost)
    place.lost_frames place.unknown_losses master

-- A refusal: over all, and by its number.
abbrev pub of_number : List ℕ → ℕ → ℕ → ℕ → List ℕ
of_number counts all each n = added (added counts all 1) (each + n) 1

-- The key of an APID, a type and a subtype.
abbrev pub key_of : ℕ → ℕ → ℕ → ℕ
key_of apid service subtype = (apid * 256 + service) * 256 + subtype

-- The index of a key, or of the first place whose count is 0.
abbrev pub place_of : ℕ → List ℕ → List ℕ → ℕ
place_of key [] many = 0
place_of key (k ∷ keys) [] = 0
place_of key (k ∷ keys) (n ∷ many) = pick (eqb n 0 || eqb k key) 0 (suc (place_of key keys many))

-- Both lists have that place.
unfoldable pub placed : ℕ → List ℕ → List ℕ → Bool
placed key keys many = ltb (place_of key keys many) (length keys) && ltb (place_of key keys many) (length many)

-- One more of a key, if it has a place.
pub record Listed (key : ℕ) (keys many : List ℕ) (r : Bool) (keys' many' : List ℕ) : Type 0 where
  pub answers : r ≡ placed key keys many
  pub names : keys' ≡ pick (placed key keys many) (set keys (place_of key keys many) key) keys
  pub counts : many' ≡ pick (placed key keys many) (added many (place_of key keys many) 1) many

pub record Tally : Type 0 where
  pub counts : List ℕ
  pub keys : List ℕ
  pub many : List ℕ

abbrev pub tally : List ℕ → List ℕ → List ℕ → Tally
tally counts keys many = record { counts = counts; keys = keys; many = many }

-- A packet that was read: over all, and by its key, or as one without a place.
unfoldable pub packet_counted : ℕ → Tally → Tally
packet_counted key t =
    let all : List ℕ = added t.counts place.read_packets 1 in
    pick (placed key t.keys t.many)
    (tally all (set t.keys (place_of key t.keys t.many) key) (added t.many (place_of key t.keys t.many) 1))
    (tally (added all place.unlisted_packets 1) t.keys t.many)

-- A recording that is bad is noted so.
abbrev pub judged : Bool → List ℕ → List ℕ
judged bad counts = pick bad (set counts place.bad 1) counts

-- ---- the source sequence counts

-- The counters and the last counts of all APIDs.
pub record Sequel : Type 0 where
  pub counts : List ℕ
  pub last : List ℕ

abbrev pub sequel : List ℕ → List ℕ → Sequel
sequel counts last = record { counts = counts; last = last }

-- What lies between an APID's last count and this one: packets that are missing are added up, and a restart is one more; nothing is known
-- at the first.
abbrev pub gap_added : ℕ → Between → List ℕ → List ℕ
gap_added apid between.unknown counts = counts
gap_added apid between.restart counts = added counts (place.apid_restarted + apid) 1
gap_added apid (between.missing n) counts = added counts (place.apid_missing + apid) n

abbrev pub with_gap : ℕ → Outcome → List ℕ → Sequel
with_gap apid o counts = sequel (pick o.answer.accepted (gap_added apid o.answer.fields counts) counts) o.list

-- By the sequence gap of a packet (document 01), over the list of last counts.
unfoldable pub sequel_of : ℕ → ℕ → Sequel → Sequel
sequel_of apid count s = with_gap apid (outcome apid count s.last) s.counts

-- ---- the images

-- From place i on, of so many places: the first that is free or has this key; the end if there is none.
unfoldable pub place_from : ℕ → ℕ → ℕ → List ℕ → ℕ
place_from zero i key counts = i
place_from (suc n) i key counts =
    pick (eqb (at counts (place.image_keys + i)) 0 || eqb (at counts (place.image_keys + i)) key) i (place_from n (i + 1) key counts)

unfoldable pub image_place : ℕ → List ℕ → ℕ
image_place key counts = place_from place.image_places 0 key counts

-- A line of an image that has a place is marked there, behind the image's key; of another image it is one more of those without a place.
unfoldable pub line_noted : ℕ → ℕ → List ℕ → List ℕ
line_noted image line counts =
    let i : ℕ = image_place (image + 1) counts in
    pick (ltb i place.image_places)
    (set (set counts (place.image_keys + i) (image + 1)) (place.image_lines + (i * image_lines + line)) 1)
    (added counts place.unplaced_lines 1)

-- What a report brings: only an image line is noted.
abbrev pub content_noted : Content → List ℕ → List ℕ
content_noted (content.Line l) counts = line_noted l.image l.line counts
content_noted (content.Success c) counts = counts
content_noted (content.Failure c) counts = counts
content_noted (content.Housekeeping c) counts = counts
content_noted (content.Available c) counts = counts

abbrev pub report_noted : Told Report → List ℕ → List ℕ
report_noted r counts = pick r.accepted (content_noted r.fields.content counts) counts

-- ---- packets and frames

-- The tally, and of each APID the last source sequence count.
pub record Ledger : Type 0 where
  pub tally : Tally
  pub last : List ℕ

abbrev pub ledger : List ℕ → List ℕ → List ℕ → List ℕ → Ledger
ledger counts keys many last = record { tally = tally counts keys many; last = last }

-- With other counters.
abbrev pub with_counts : Ledger → List ℕ → Ledger
with_counts g counts = ledger counts g.tally.keys g.tally.many g.last

-- A packet that was read: by its key, by its sequence gap, and if it is an image line by that.
abbrev pub key_counted : Packet → Ledger → Ledger
key_counted p g = record { tally = packet_counted (key_of p.apid p.service p.subtype) g.tally; last = g.last }

abbrev pub gap_counted : Packet → Ledger → Ledger
gap_counted p g =
    let s : Sequel = sequel_of p.apid p.sequence.0 (sequel g.tally.counts g.last) in
    ledger s.counts g.tally.keys g.tally.many s.last

abbrev pub line_counted : Packet → List ℕ → Ledger → Ledger
line_counted p packet g = pick (image_line p) (with_counts g (report_noted (read_report packet) g.tally.counts)) g

unfoldable pub read_counted : Packet → List ℕ → Ledger → Ledger
read_counted p packet g = line_counted p packet (gap_counted p (key_counted p g))

-- A packet that was handed out: read, or turned away.
abbrev pub by_reading : Told Packet → List ℕ → Ledger → Ledger
by_reading r packet g =
    pick r.accepted (read_counted r.fields packet g)
    (with_counts g (of_number g.tally.counts place.away_packets place.away_with r.refusal))

unfoldable pub handed_counted : List ℕ → Ledger → Ledger
handed_counted packet g = by_reading (read_packet packet) packet g

-- Packets one after another.
abbrev pub all_counted : List (List ℕ) → Ledger → Ledger
all_counted [] g = g
all_counted (p ∷ ps) g = all_counted ps (handed_counted p g)

-- An accepted frame, and a refused one, without packets.
abbrev pub accepted_counted : Accepted → Ledger → Ledger
accepted_counted a g = with_counts g (accepted g.tally.counts a.channel a.lost a.master)

abbrev pub refused_counted : ℕ → Ledger → Ledger
refused_counted n g = with_counts g (of_number g.tally.counts place.refused_frames place.refused_with n)

-- A session's answer: an accepted frame, and the packets handed out with it, which stand end to end at the start of octets, by their
-- lengths; or a refusal.
abbrev pub answer_counted : StepAnswer → List ℕ → List ℕ → Ledger → Ledger
answer_counted (Ok a) octets lengths g = all_counted (cut octets (take a.packets lengths)) (accepted_counted a g)
answer_counted (Err r) octets lengths g = refused_counted r.number g
