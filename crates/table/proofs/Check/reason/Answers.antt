-- `table::Check::reason` meets its contract.
use mathlib.Core.Path.{ap, ◌∙◌}
use mathlib.Core.Option.{some}
use Prim.Native.Nat.{ℕ}
use lib.ListN.{drop, get_elem?}
use Rattle.octets.specs.Numbers.{at}
use Rattle.table.specs.Table.{columns_in, row_in, against}
use Rattle.table.specs.Look.{handed}
use Rattle.table.specs.Told.{told}
use Rattle.table.proofs.Reasons.{out_of_order, elsewhere, ok, so}
use Rattle.table.proofs.Check.reason.Goals as goal

pub returns-then-number-self : goal.returns-then-number-self
returns-then-number-self c = ap told (out_of_order _ _ _ c.four_at-number.ensures c.if-number-self.true)

pub returns-then-number-self-2 : goal.returns-then-number-self-2
returns-then-number-self-2 c =
    ap told (elsewhere _ _ _ c.four_at-number.ensures c.if-number-self.false c.requires.accepted_value c.if-number-self-2.true)

pub against-requires-clause-packet_value : goal.against-requires-clause-packet_value
against-requires-clause-packet_value c =
    ok c.args.self (handed c.args.packet.now c.args.arrival) (row_in c.args.row.now) c.four_at-number.ensures c.if-number-self.false
    c.requires.accepted_value c.if-number-self-2.false

pub returns : goal.returns
returns c =
    c.against.ensures
    ∙ ap told (so _ _ _ c.four_at-number.ensures c.if-number-self.false c.requires.accepted_value c.if-number-self-2.false
    (ap (λ (n : ℕ). against (row_in c.args.row.now)
    (get_elem? (columns_in n (drop 4 c.args.self.head)) (at c.args.row.now 4))
    (some (handed c.args.packet.now c.args.arrival))) c.from.ensures))
