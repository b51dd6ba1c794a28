-- Document 02, M-112: a training table, checked against the packets that were handed out. This page is what is promised.
use Rattle.std.specs.Prelude.{ℕ, zero, suc, ◌+◌, ◌-◌, ◌*◌, Bool, false, not, ◌||◌, ◌&&◌, List, [], ◌∷◌, ◌++◌, length, drop, replicate, leb, ltb, eqb}
use Rattle.std.proofs.Math.Option.{Option, none, some}
use Rattle.std.proofs.Math.ListN.{get_elem?}
use Rattle.octets.specs.Numbers.{at, four}
use Rattle.octets.specs.Parts.{part}
use Rattle.octets.specs.Pick.{pick}
use Rattle.octets.specs.Same.{same}
use Rattle.answer.specs.Refusals as reason
use Rattle.packet.specs.Packet.{read_packet}
use Rattle.rules.specs.Channel.{Handed}
use Rattle.table.specs.declared.Verdict.{Verdict}
use Rattle.table.specs.declared.Verdict.TheVariants.{Passes, Faulty}

-- ---- the file: a count and that many columns, then a count and that many rows, all numbers high octet first

-- A column: so many octets of a packet, from an offset on.
pub record Column : Type 0 where
  pub offset : ℕ
  pub width : ℕ

-- A row: that the packet of this number has this value, 8 octets, in this column, and that it was known at the arrival number `claim`.
pub record Row : Type 0 where
  pub packet : ℕ
  pub column : ℕ
  pub claim : ℕ
  pub value : List ℕ

abbrev pub most_columns : ℕ
most_columns = 32

abbrev pub widest : ℕ
widest = 8

-- The octets of a row: packet number 4, column number 1, claim 4, value 8.
abbrev pub row_octets : ℕ
row_octets = 17

-- The number of the four octets at index i.
abbrev pub four_at : List ℕ → ℕ → ℕ
four_at s i = four (at s i) (at s (i + 1)) (at s (i + 2)) (at s (i + 3))

abbrev pub column_count : List ℕ → ℕ
column_count table = four_at table 0

abbrev pub row_count : List ℕ → ℕ
row_count table = four_at table (4 + 2 * column_count table)

-- Where the rows begin.
abbrev pub rows_from : ℕ → ℕ
rows_from columns = 8 + 2 * columns

-- The first n columns in octets, as far as they are there: each an offset, then a width.
abbrev pub columns_in : ℕ → List ℕ → List Column
columns_in zero s = []
columns_in (suc n) [] = []
columns_in (suc n) (offset ∷ []) = []
columns_in (suc n) (offset ∷ width ∷ s) = record { offset = offset; width = width } ∷ columns_in n s

abbrev pub columns_of : List ℕ → List Column
columns_of table = columns_in (column_count table) (drop 4 table)

abbrev pub row_in : List ℕ → Row
row_in s = record { packet = four_at s 0; column = at s 4; claim = four_at s 5; value = part s 9 8 }

-- The first n rows in octets.
abbrev pub rows_in : ℕ → List ℕ → List Row
rows_in zero s = []
rows_in (suc n) s = row_in s ∷ rows_in n (drop row_octets s)

abbrev pub rows_of : List ℕ → List Row
rows_of table = rows_in (row_count table) (drop (rows_from (column_count table)) table)

-- ---- refusal 70, of the whole file

-- A width that is not 1 to 8, of any column.
unfoldable pub widths_wrong : List Column → Bool
widths_wrong [] = false
widths_wrong (c ∷ cs) = (eqb c.width 0 || ltb widest c.width) || widths_wrong cs

-- Of a file of n octets that begins with these: above 32 columns, a wrong width, or fewer or more octets than the counts say.
unfoldable pub badly_formed : List ℕ → ℕ → Bool
badly_formed table n =
    ltb most_columns (column_count table)
    || (widths_wrong (columns_of table) || not (eqb n (rows_from (column_count table) + row_octets * row_count table)))

-- ---- refusals 71 to 74, of a row

-- The packet of a number, counted from 1 in the order in which they were handed out.
abbrev pub numbered : List Handed → ℕ → Option Handed
numbered packets zero = none
numbered packets (suc n) = get_elem? packets n

-- The octets of a column are in the packet, and the value is these, with zeros before them to 8 octets.
unfoldable pub stands : Column → List ℕ → List ℕ → Bool
stands c packet value =
    leb (c.offset + c.width) (length packet)
    && same value (replicate (8 - c.width) 0 ++ part packet c.offset c.width)

-- 72 for no such column, no such packet, or one that the packet reader turns away; 73 for a value that is not there; 74 for a claim below
-- the arrival number of the packet: that of the frame with its last octet. 0 if there is nothing against the row.
unfoldable pub against : Row → Option Column → Option Handed → ℕ
against r none h = reason.row_packet
against r (some c) none = reason.row_packet
against r (some c) (some h) =
    pick (not (read_packet h.packet).accepted) reason.row_packet
    (pick (not (stands c h.packet r.value)) reason.row_value
    (pick (ltb r.claim h.arrival) reason.row_claim 0))

-- 71 first, for a packet number below the row before's; 0 is before the first row.
unfoldable pub fault : List Column → List Handed → ℕ → Row → ℕ
fault columns packets before r =
    pick (ltb r.packet before) reason.row_order (against r (get_elem? columns r.column) (numbered packets r.packet))

-- ---- the verdict

-- The first faulty row, and its first reason; n rows were looked at before.
unfoldable pub first_fault : List Column → List Handed → ℕ → ℕ → List Row → Verdict
first_fault columns packets n before [] = Passes
first_fault columns packets n before (r ∷ rs) =
    pick (eqb (fault columns packets before r) 0) (first_fault columns packets (suc n) r.packet rs)
    (Faulty (fault columns packets before r) (suc n))

-- Of a table file and the packets handed out, in their order: 70 with row 0 before any row is looked at.
unfoldable pub verdict : List ℕ → List Handed → Verdict
verdict table packets =
    pick (badly_formed table (length table)) (Faulty reason.table_form 0) (first_fault (columns_of table) packets 0 0 (rows_of table))
