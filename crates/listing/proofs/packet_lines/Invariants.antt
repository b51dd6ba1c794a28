-- The lines of the packets before index i stand behind what the output had.
use Rattle.std.proofs.Common.{◌≡◌, ◌*◌, take}
use Rattle.rules.specs.Packets.{total}
use Rattle.decimal.specs.Laid.{Laid}
use Rattle.listing_lines.specs.Text.{longest_line}
use Rattle.listing.specs.Listing.{packets_text}
use Rattle.listing.specs.Promised.{cut}
use Rattle.listing.proofs.packet_lines.Given as goal

abbrev pub invariant-loop-i : goal.invariant-loop-i
invariant-loop-i l =
    (l.from ≡ total (take l.i l.lengths))
    × Laid (longest_line * l.i) (packets_text (cut l.arrival l.octets (take l.i l.lengths) l.firsts)) l.fn.out l.used l.out l.next
