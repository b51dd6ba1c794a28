-- `table::against` meets its contract.
use native.Mathlib.Omega.{arith}
use mathlib.Core.Path.{ap, ◌∙◌}
use mathlib.Core.Bool.{not}
use lib.ListN.{length}
use Rattle.octets.proofs.Runs.{length_part}
use Rattle.table.specs.Told.{told}
use Rattle.table.proofs.Reasons.{no_number, no_octets, not_there, too_early_lem, nothing}
use Rattle.table.proofs.against.Goals as goal

pub returns-then-columns-column : goal.returns-then-columns-column
returns-then-columns-column c =
    ap told
    (no_number c.args.head.now c.args.columns c.args.row.now c.args.packet.now c.args.arrival c.requires.packet_value c.from-column.ensures c.if-columns-column.true)

pub returns-then-c-lt2 : goal.returns-then-c-lt2
returns-then-c-lt2 c =
    ap told
    (no_octets c.args.head.now c.args.columns c.args.row.now c.args.packet.now c.args.arrival c.requires.packet_value c.from-column.ensures
    c.part-c.ensures c.if-c-lt2.true)

pub stands-requires : goal.stands-requires
stands-requires c =
    ap length c.part.ensures ∙ length_part c.args.row.now 9 8 (omega (arith, c.requires.in_bounds))

pub returns-then-not-stands : goal.returns-then-not-stands
returns-then-not-stands c =
    ap told
    (not_there c.args.head.now c.args.columns c.args.row.now c.args.packet.now c.args.arrival c.requires.packet_value c.from-column.ensures
    c.part-c.ensures c.if-columns-column.false c.if-c-lt2.false
    c.part.ensures c.stands.ensures (ap not c.if-not-stands.true))

pub returns-then-four_at-arrival : goal.returns-then-four_at-arrival
returns-then-four_at-arrival c =
    ap told
    (too_early_lem c.args.head.now c.args.columns c.args.row.now c.args.packet.now c.args.arrival c.requires.packet_value c.from-column.ensures
    c.part-c.ensures c.if-columns-column.false c.if-c-lt2.false
    c.part.ensures c.stands.ensures (ap not c.if-not-stands.false) c.four_at.ensures c.if-four_at-arrival.true)

pub returns : goal.returns
returns c =
    ap told
    (nothing c.args.head.now c.args.columns c.args.row.now c.args.packet.now c.args.arrival c.requires.packet_value c.from-column.ensures
    c.part-c.ensures c.if-columns-column.false c.if-c-lt2.false
    c.part.ensures c.stands.ensures (ap not c.if-not-stands.false) c.four_at.ensures c.if-four_at-arrival.false)
