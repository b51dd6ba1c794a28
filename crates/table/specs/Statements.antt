-- What the verdict means, in facts: the table passes exactly if it is well formed and each row is right; else the first row that is not.
use Rattle.std.specs.Prelude.{ℕ, suc, ◌+◌, ◌-◌, ◌*◌, ◌≤◌, ◌≡◌, true, List, [], ◌∷◌, ◌++◌, length, replicate}
use Rattle.std.proofs.Math.Option.{some}
use Rattle.std.proofs.Math.ListN.{get_elem?}
use Rattle.octets.specs.Parts.{part}
use Rattle.answer.specs.Refusals as reason
use Rattle.packet.specs.Packet.{read_packet}
use Rattle.rules.specs.Channel.{Handed}
use Rattle.table.specs.Table.{Column, Row, most_columns, widest, row_octets, column_count, row_count, rows_from, columns_of, rows_of}
use Rattle.table.specs.Table.{numbered, fault, verdict}
use Rattle.table.specs.declared.Verdict.TheVariants.{Passes, Faulty}

-- The octets of a column are there in a packet, with that value.
pub record Stands (c : Column) (packet value : List ℕ) : Type 0 where
  pub inside : c.offset + c.width ≤ length packet
  pub same : value ≡ replicate (8 - c.width) 0 ++ part packet c.offset c.width

-- A row behind one about packet `before`: its packet exists and was accepted by the packet reader, the octets are there with that value,
-- and the claim isn't earlier than the packet's arrival.
pub record Right (columns : List Column) (packets : List Handed) (before : ℕ) (r : Row) : Type 0 where
  pub order : before ≤ r.packet
  pub column : Column
  pub such : get_elem? columns r.column ≡ some column
  pub handed : Handed
  pub exists : numbered packets r.packet ≡ some handed
  pub accepted : (read_packet handed.packet).accepted ≡ true
  pub value : Stands column handed.packet r.value
  pub claim : handed.arrival ≤ r.claim

abbrev pub AllRight : List Column → List Handed → ℕ → List Row → Type 0
AllRight columns packets before [] = Unit {0}
AllRight columns packets before (r ∷ rs) = Right columns packets before r × AllRight columns packets r.packet rs

abbrev pub WidthsRight : List Column → Type 0
WidthsRight [] = Unit {0}
WidthsRight (c ∷ cs) = (1 ≤ c.width) × (c.width ≤ widest) × WidthsRight cs

pub record WellFormed (table : List ℕ) : Type 0 where
  pub columns : column_count table ≤ most_columns
  pub widths : WidthsRight (columns_of table)
  pub octets : length table ≡ rows_from (column_count table) + row_octets * row_count table

pub record PassesExactly (table : List ℕ) (packets : List Handed) : Type 0 where
  pub formed : verdict table packets ≡ Passes → WellFormed table
  pub rows : verdict table packets ≡ Passes → AllRight (columns_of table) packets 0 (rows_of table)
  pub passes : WellFormed table → AllRight (columns_of table) packets 0 (rows_of table) → verdict table packets ≡ Passes

abbrev pub Exactly : Type 0
Exactly = (table : List ℕ) (packets : List Handed) → PassesExactly table packets

-- The packet number of the last of these rows.
abbrev pub last_of : ℕ → List Row → ℕ
last_of before [] = before
last_of before (r ∷ rs) = last_of r.packet rs

-- A table that doesn't pass: row 0 with 70 if it is badly formed; else a row with the first reason against it, all rows before it being
-- right, which is then no right row itself.
pub data First (table : List ℕ) (packets : List Handed) : ℕ → ℕ → Type 0 where
  whole : (WellFormed table → ⊥) → First table packets reason.table_form 0
  row : (before : List Row) (r : Row) (behind : List Row) → WellFormed table → rows_of table ≡ before ++ r ∷ behind
      → AllRight (columns_of table) packets 0 before → (Right (columns_of table) packets (last_of 0 before) r → ⊥)
      → First table packets (fault (columns_of table) packets (last_of 0 before) r) (suc (length before))

abbrev pub FaultsFirst : Type 0
FaultsFirst = (table : List ℕ) (packets : List Handed) (n row : ℕ) → verdict table packets ≡ Faulty n row → First table packets n row
