-- The summary as CSV: a header, and rows of a subject, its key, what is measured and one number.
use Rattle.std.specs.Prelude.{ℕ, List, ◌++◌}
use Rattle.summary_pen.specs.Words.{codes, row, pair, keyed}
use Rattle.summary_pen.specs.Form.{Form}

-- Two kinds: "frames,,accepted,96", "frames,,refused,1".
unfoldable pub two : List ℕ → List ℕ → ℕ → ℕ → List ℕ
two one other m n = row one m ++ row other n

-- A channel: "channel,2,frames,97", "channel,2,lost,3", "channel,2,unknown,1".
unfoldable pub channel_rows : ℕ → ℕ → ℕ → ℕ → List ℕ
channel_rows i n lost unknown =
    pair (codes "channel,") (codes ",frames,") i n
    ++ (pair (codes "channel,") (codes ",lost,") i lost
    ++ pair (codes "channel,") (codes ",unknown,") i unknown)

-- An APID: "apid,67,missing,3", "apid,67,restarted,1".
unfoldable pub apid_rows : ℕ → ℕ → ℕ → List ℕ
apid_rows i missing restarted =
    pair (codes "apid,") (codes ",missing,") i missing ++ pair (codes "apid,") (codes ",restarted,") i restarted

-- All rows. A refusal: "frames,21,refused,3", "packets,22,turned away,1". A key: "packets,67/3/25,read,2".
abbrev pub as_csv : Form
as_csv = record {
  begins = codes "subject,key,measure,value\n";
  frames = two (codes "frames,,accepted,") (codes "frames,,refused,");
  refused = pair (codes "frames,") (codes ",refused,");
  channel = channel_rows;
  over_all = λ accepted lost unknown. two (codes "all,,lost,") (codes "all,,unknown,") lost unknown;
  packets = two (codes "packets,,read,") (codes "packets,,turned away,");
  key = keyed (codes "packets,") (codes "/") (codes "/") (codes ",read,");
  others = row (codes "packets,,other,");
  away = pair (codes "packets,") (codes ",turned away,");
  apid = apid_rows;
  image = pair (codes "image,") (codes ",lines,");
  other_lines = row (codes "image,,other lines,");
  bad = row (codes "recording,,bad,");
}
