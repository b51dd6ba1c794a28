-- The whole summary: what is told, in which order, and when there is something to tell. Both forms share this.
use Rattle.std.specs.Prelude.{ℕ, zero, suc, ◌+◌, ◌-◌, ◌*◌, not, ◌&&◌, List, [], ◌∷◌, ◌++◌, eqb}
use Rattle.octets.specs.Numbers.{at}
use Rattle.octets.specs.Pick.{pick}
use Rattle.summary_count.specs.Counters as place
use Rattle.summary_count.specs.Count.{saturated}
use Rattle.summary_pen.specs.Words.{if_any, each}
use Rattle.summary_pen.specs.Form.{Form}
use Rattle.summary_pen.specs.Lines.{as_text}
use Rattle.summary_pen.specs.Rows.{as_csv}

-- How many packets there were of a key: what stands at its first place whose count is not 0.
abbrev pub many_of : ℕ → List ℕ → List ℕ → ℕ
many_of key [] many = 0
many_of key (k ∷ keys) [] = 0
many_of key (k ∷ keys) (n ∷ many) = pick (eqb k key && not (eqb n 0)) n (many_of key keys many)

-- How many of so many counters from an index on are not 0.
unfoldable pub marked : ℕ → ℕ → List ℕ → ℕ
marked zero from counts = 0
marked (suc many) from counts = pick (eqb (at counts from) 0) 0 1 + marked many (from + 1) counts

-- How many of the 120 lines of the image at a place were received.
abbrev pub lines_at : ℕ → List ℕ → ℕ
lines_at i counts = marked 120 (place.image_lines + i * 120) counts

-- How often each refusal of a kind was met, by their rising numbers: their counters stand from an index on.
unfoldable pub refusals : ℕ → (ℕ → ℕ → List ℕ) → List ℕ → List ℕ
refusals from text counts =
    each place.refusal_numbers 0 (λ (i : ℕ). if_any (at counts (from + i)) (text i (at counts (from + i))))

-- Channels that have a frame, by their rising numbers.
unfoldable pub channel_texts : Form → List ℕ → List ℕ
channel_texts f counts =
    each place.channel_numbers 0
    (λ (i : ℕ).
    if_any (at counts (place.channel_frames + i))
    (f.channel i (at counts (place.channel_frames + i)) (at counts (place.channel_lost + i)) (at counts (place.channel_unknown + i))))

-- Packets of each key, by rising keys.
unfoldable pub key_texts : Form → List ℕ → List ℕ → List ℕ
key_texts f keys many = each 4294967296 0 (λ (key : ℕ). if_any (many_of key keys many) (f.key key (many_of key keys many)))

-- APIDs of which a packet is missing or whose count started again, by their rising numbers.
unfoldable pub apid_texts : Form → List ℕ → List ℕ
apid_texts f counts =
    each place.apid_numbers 0
    (λ (i : ℕ).
    if_any (saturated (at counts (place.apid_missing + i)) (at counts (place.apid_restarted + i)))
    (f.apid i (at counts (place.apid_missing + i)) (at counts (place.apid_restarted + i))))

-- Images, by their places: at each its number and 1, or 0 where there is none.
unfoldable pub image_texts : Form → List ℕ → List ℕ
image_texts f counts =
    each place.image_places 0
    (λ (i : ℕ). if_any (at counts (place.image_keys + i)) (f.image (at counts (place.image_keys + i) - 1) (lines_at i counts)))

-- What is told of frames: how many, refusals, channels, and over all channels if a frame was accepted.
unfoldable pub of_frames : Form → List ℕ → List ℕ
of_frames f counts =
    let accepted : ℕ = at counts place.accepted_frames in
    let refused : ℕ = at counts place.refused_frames in
    if_any (saturated accepted refused) (f.frames accepted refused)
    ++ (refusals place.refused_with f.refused counts
    ++ (channel_texts f counts
    ++ if_any accepted (f.over_all accepted (at counts place.lost_frames) (at counts place.unknown_losses))))

-- What is told of packets: how many, by keys, those without a place among the keys, those turned away.
unfoldable pub of_packets : Form → List ℕ → List ℕ → List ℕ → List ℕ
of_packets f counts keys many =
    let read : ℕ = at counts place.read_packets in
    let away : ℕ = at counts place.away_packets in
    if_any (saturated read away) (f.packets read away)
    ++ (key_texts f keys many
    ++ (if_any (at counts place.unlisted_packets) (f.others (at counts place.unlisted_packets))
    ++ refusals place.away_with f.away counts))

-- What is told last: APIDs, images, lines of images without a place, and whether the recording is bad.
unfoldable pub of_others : Form → List ℕ → List ℕ
of_others f counts =
    apid_texts f counts
    ++ (image_texts f counts
    ++ (if_any (at counts place.unplaced_lines) (f.other_lines (at counts place.unplaced_lines))
    ++ if_any (at counts place.bad) (f.bad (at counts place.bad))))

-- The whole in a form.
unfoldable pub whole : Form → List ℕ → List ℕ → List ℕ → List ℕ
whole f counts keys many = f.begins ++ (of_frames f counts ++ (of_packets f counts keys many ++ of_others f counts))

-- The summary as text, and as CSV.
abbrev pub summary_of : List ℕ → List ℕ → List ℕ → List ℕ
summary_of = whole as_text

abbrev pub csv_of : List ℕ → List ℕ → List ℕ → List ℕ
csv_of = whole as_csv
