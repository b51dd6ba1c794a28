-- The example computes.
use mathlib.Core.Path.{refl}
use Rattle.octets.specs.Parts.{part}
use Rattle.octets.specs.Pick.{pick}
use Rattle.octets.specs.Same.{same}
use Rattle.crc.specs.Check.{check_wrong, check}
use Rattle.packet.specs.Packet.{length_wrong, read_packet}
use Rattle.table.specs.Table.{widths_wrong, badly_formed, stands, against, fault, first_fault, verdict}
use Rattle.about_table.specs.Example.{Example}

pub example : Example
unfolding part pick same check_wrong check length_wrong read_packet widths_wrong badly_formed stands against fault first_fault verdict
example =
    record {
      none = refl;
      right = refl;
      early = refl;
      other = refl;
      padding = refl;
      away = refl;
      before = refl;
      behind = refl;
      column = refl;
      order = refl;
      surplus = refl;
    }
