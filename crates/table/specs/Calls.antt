-- What the calls tell of a table file that is read twice, in pieces of any length: the verdict of Table, and no other.
use Rattle.std.specs.Prelude.{ℕ, ◌+◌, ◌≤◌, ◌<◌, ◌≡◌, ◌⊎◌, List, [], ◌∷◌, ◌++◌, length, drop}
use Rattle.octets.specs.Numbers.{at}
use Rattle.rules.specs.Channel.{Handed}
use Rattle.rules.specs.Packets.{joined}
use Rattle.table.specs.Table.{row_octets, rows_from, verdict}
use Rattle.table.specs.Form.{known, grown, started}
use Rattle.table.specs.Look.{handed, looked, ended}
use Rattle.table.specs.declared.Verdict.{Verdict}
use Rattle.table.specs.declared.Form.{Form}
use Rattle.table.specs.declared.Check.{Check}
use Rattle.table.specs.declared.Looked.{Looked}
use Rattle.table.specs.declared.Wanted.TheVariants as wanted

-- The first reading: each form is what `Form::read` promises of the one before and a piece; the first is `Form::fresh`'s.
abbrev pub Read : Form → List (List ℕ) → List Form → Form → Type 0
Read f [] [] g = g ≡ f
Read f (p ∷ ps) (n ∷ ns) g = (n ≡ grown f p) × Read n ps ns g
Read f [] (n ∷ ns) g = ⊥
Read f (p ∷ ps) [] g = ⊥

-- Octets at hand of those that are not used yet.
pub record Window (rest : List ℕ) : Type 0 where
  pub octets : List ℕ
  pub behind : List ℕ
  pub cut : rest ≡ octets ++ behind

-- The second reading: with `rest` of the rows' octets not used yet, and these packets not handed out yet, or the first of them at hand.
pub data Tells : Check → List ℕ → List Handed → Verdict → Type 0 where
  -- `Check::look` with the packet at hand tells the verdict, whatever is still to be handed out,
  says : {c : Check} {rest : List ℕ} {h : Handed} {hs : List Handed} {v : Verdict} (w : Window rest) (l : Looked)
      → l ≡ looked c w.octets (handed h.packet h.arrival) → l.wanted ≡ wanted.Nothing v → Tells c rest (h ∷ hs) v
  -- or wants the next packet,
  goes : {c : Check} {rest : List ℕ} {h : Handed} {hs : List Handed} {v : Verdict} (w : Window rest) (l : Looked)
      → l ≡ looked c w.octets (handed h.packet h.arrival) → l.wanted ≡ wanted.Packet
      → Tells l.check (drop l.used rest) hs v → Tells c rest (h ∷ hs) v
  -- or more rows, beside the same packet.
  waits : {c : Check} {rest : List ℕ} {h : Handed} {hs : List Handed} {v : Verdict} (w : Window rest) (l : Looked)
      → l ≡ looked c w.octets (handed h.packet h.arrival) → l.wanted ≡ wanted.Rows
      → Tells l.check (drop l.used rest) (h ∷ hs) v → Tells c rest (h ∷ hs) v
  -- After the last packet `Check::end` tells it, with a row at hand if there is one.
  ends : {c : Check} {rest : List ℕ} {v : Verdict} (w : Window rest) → (row_octets ≤ length w.octets) ⊎ (w.behind ≡ [])
      → v ≡ ended c w.octets → Tells c rest [] v

-- For every table, every list of packets, and however both readings are cut.
abbrev pub TellsVerdict : Type 0
TellsVerdict = (table : List ℕ) (packets : List Handed) (pieces : List (List ℕ)) (forms : List Form) (form : Form) (v : Verdict)
    → ((i : ℕ) → at table i < 256) → joined pieces ≡ table → Read (known []) pieces forms form
    → Tells (started form) (drop (rows_from (started form).columns) table) packets v
    → v ≡ verdict table packets

-- A look uses no more than is at hand, and wants more rows only if no whole row is left there: with a row's octets at hand, each call goes
-- on.
pub record LooksOn (c : Check) (octets : List ℕ) (h : Handed) : Type 0 where
  pub inside : (looked c octets h).used ≤ length octets
  pub starved : (looked c octets h).wanted ≡ wanted.Rows → length octets < (looked c octets h).used + row_octets

abbrev pub EachLooksOn : Type 0
EachLooksOn = (c : Check) (octets : List ℕ) (h : Handed) → LooksOn c octets h

-- So every table has a verdict: for every list of packets there are calls that tell it.
pub record Told (table : List ℕ) (packets : List Handed) : Type 0 where
  pub verdict : Verdict
  pub tells : Tells (started (known table)) (drop (rows_from (started (known table)).columns) table) packets verdict

abbrev pub AllTold : Type 0
AllTold = (table : List ℕ) (packets : List Handed) → ((i : ℕ) → at table i < 256) → Told table packets
