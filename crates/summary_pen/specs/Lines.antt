-- The summary as text: what each of its lines looks like.
use Rattle.std.specs.Prelude.{ℕ, ◌*◌, ◌/◌, ◌%◌, List, [], ◌++◌}
use Rattle.summary_count.specs.Count.{saturated}
use Rattle.summary_pen.specs.Words.{codes, told, ended, row, pair, keyed}
use Rattle.summary_pen.specs.Form.{Form}

-- How much n is of m, in parts of a thousand: what is less than one part is cut off.
unfoldable pub thousandths : ℕ → ℕ → ℕ
thousandths n m = n * 1000 / m

-- The share that n has in n and the rest together, as a percentage with one decimal: " (98.9 %)".
unfoldable pub share : ℕ → ℕ → List ℕ
share n rest =
    told (codes " (") (thousandths n (saturated n rest) / 10)
    ++ (told (codes ".") (thousandths n (saturated n rest) % 10)
    ++ codes " %)")

-- Words, a number and its share: "accepted 96 (98.9 %)".
unfoldable pub shared : List ℕ → ℕ → ℕ → List ℕ
shared words n rest = told words n ++ share n rest

-- How many there were of two kinds together, and of each: "frames 97: accepted 96 (98.9 %), refused 1 (1.0 %)".
unfoldable pub both : List ℕ → List ℕ → List ℕ → ℕ → ℕ → List ℕ
both words one other m n =
    told words (saturated m n) ++ (shared one m n ++ (shared other n m ++ ended))

-- The frames lost with their share in those received and lost, and the losses that are unknown: "lost 3 (3.0 %), unknown 1".
unfoldable pub losses : List ℕ → ℕ → ℕ → ℕ → List ℕ
losses words received lost unknown = shared words lost received ++ row (codes ", unknown ") unknown

-- A channel: "channel 2: frames 97, lost 3 (3.0 %), unknown 1".
unfoldable pub channel_line : ℕ → ℕ → ℕ → ℕ → List ℕ
channel_line i n lost unknown =
    told (codes "channel ") i ++ (told (codes ": frames ") n ++ losses (codes ", lost ") n lost unknown)

-- An APID: "APID 67: missing 3, restarted 1".
unfoldable pub apid_line : ℕ → ℕ → ℕ → List ℕ
apid_line i missing restarted = told (codes "APID ") i ++ pair (codes ": missing ") (codes ", restarted ") missing restarted

-- An image: "image 7: 115 of 120 lines".
unfoldable pub image_line : ℕ → ℕ → List ℕ
image_line i lines = told (codes "image ") i ++ (told (codes ": ") lines ++ codes " of 120 lines\n")

-- All lines. A refusal: "refused with 21: 3", "turned away with 22: 1". A key: "APID 67 (3,25): 2".
abbrev pub as_text : Form
as_text = record {
  begins = [];
  frames = both (codes "frames ") (codes ": accepted ") (codes ", refused ");
  refused = pair (codes "refused with ") (codes ": ");
  channel = channel_line;
  over_all = losses (codes "all channels: lost ");
  packets = both (codes "packets ") (codes ": read ") (codes ", turned away ");
  key = keyed (codes "APID ") (codes " (") (codes ",") (codes "): ");
  others = row (codes "other packets: ");
  away = pair (codes "turned away with ") (codes ": ");
  apid = apid_line;
  image = image_line;
  other_lines = row (codes "lines of other images: ");
  bad = λ n. codes "bad recording\n";
}
