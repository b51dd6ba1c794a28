-- The second reading: rows looked at beside the packet that was just handed out.
use Rattle.std.specs.Prelude.{ℕ, ◌+◌, ◌/◌, List, [], ◌∷◌, length, leb, ltb, eqb}
use Rattle.std.proofs.Math.Option.{Option, none, some}
use Rattle.std.proofs.Math.ListN.{get_elem?}
use Rattle.octets.specs.Pick.{pick}
use Rattle.answer.specs.Refusals as reason
use Rattle.rules.specs.Channel.{Handed}
use Rattle.table.specs.Table.{Row, row_octets, row_in, rows_in, against}
use Rattle.table.specs.Form.{columns_held}
use Rattle.table.specs.declared.Verdict.{Verdict}
use Rattle.table.specs.declared.Verdict.TheVariants.{Passes, Faulty}
use Rattle.table.specs.declared.Check.{Check}
use Rattle.table.specs.declared.Looked.{Looked}
use Rattle.table.specs.declared.Wanted.{Wanted}
use Rattle.table.specs.declared.Wanted.TheVariants as wanted

-- The packet at hand, if the row is about it.
abbrev pub at_hand : Check → Handed → Row → Option Handed
at_hand c h r = pick (eqb r.packet c.number) (some h) none

-- The first reason against a row, 0 if there is none, where a packet of a number below `least` may not come.
unfoldable pub reason_at : Check → Option Handed → Row → ℕ
reason_at c h r = pick (ltb r.packet c.least) reason.row_order (against r (get_elem? (columns_held c) r.column) h)

-- The check behind a row that is right, and behind a packet that no row at hand is about any more.
abbrev pub behind_row : Check → Row → Check
behind_row c r =
    record {
      formed = c.formed;
      head = c.head;
      columns = c.columns;
      rows = c.rows;
      row = c.row + 1;
      least = r.packet;
      number =
          c.number;
    }

abbrev pub behind_packet : Check → Check
behind_packet c =
    record {
      formed = c.formed;
      head = c.head;
      columns = c.columns;
      rows = c.rows;
      row = c.row;
      least = c.number + 1;
      number = c.number + 1;
    }

abbrev pub left : Check → ℕ → Wanted → Looked
left c used w = record { check = c; used = used; wanted = w }

-- The rows at hand one after another, up to one that is about a later packet or is faulty; after the last row of the table it passes.
unfoldable pub along : Check → Handed → ℕ → List Row → Looked
along c h used [] = pick (leb c.rows c.row) (left c used (wanted.Nothing Passes)) (left c used wanted.Rows)
along c h used (r ∷ rs) =
    pick (leb c.rows c.row) (left c used (wanted.Nothing Passes))
    (pick (ltb c.number r.packet) (left (behind_packet c) used wanted.Packet)
    (pick (eqb (reason_at c (at_hand c h r) r) 0) (along (behind_row c r) h (used + row_octets) rs)
    (left c used (wanted.Nothing (Faulty (reason_at c (at_hand c h r) r) (c.row + 1))))))

-- A packet as it is lent to a call: the frame with its first octet plays no part.
abbrev pub handed : List ℕ → ℕ → Handed
handed packet arrival = record { first = arrival; arrival = arrival; packet = packet }

abbrev pub ill_formed : Verdict
ill_formed = Faulty reason.table_form 0

-- The contract of `Check::look`: the whole rows in the octets at hand.
unfoldable pub looked : Check → List ℕ → Handed → Looked
looked c octets h =
    pick c.formed (along c h 0 (rows_in (length octets / row_octets) octets)) (left c 0 (wanted.Nothing ill_formed))

-- The contract of `Check::end`: no packet comes any more, so the next row, if there is one, is faulty. If its octets aren't lent, the table
-- is not the one that was read first.
unfoldable pub ended : Check → List ℕ → Verdict
ended c octets =
    pick c.formed
    (pick (leb c.rows c.row) Passes
    (pick (ltb (length octets) row_octets) ill_formed (Faulty (reason_at c none (row_in octets)) (c.row + 1))))
    ill_formed
