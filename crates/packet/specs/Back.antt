-- Demand 2 for the packet: its reader and its writer undo one another. (Over the calls, by their generated contracts: proofs/Calls.)
use Rattle.std.specs.Prelude.{ℕ, ◌<◌, ◌≡◌, List, false, length}
use Rattle.octets.specs.Numbers.{at}
use Rattle.answer.specs.Told.{accept}
use Rattle.packet.specs.Packet.{read_packet, source_of}
use Rattle.packet.specs.Write.{fields_wrong, packet_octets}
use Rattle.packet.specs.declared.Packet.{Packet}

-- What was written is accepted and reads back to the same fields and source data.
pub record ReadBack (p : Packet) (d : List ℕ) : Type 0 where
  pub fields : read_packet (packet_octets p d) ≡ accept p
  pub source : source_of p (packet_octets p d) ≡ d

abbrev pub ReadsBack : Type 0
ReadsBack = (p : Packet) (d : List ℕ) → fields_wrong p (length d) ≡ false → ReadBack p d

-- What was accepted is what the writer gives for its fields and source data, and the writer accepts them.
pub record WrittenBack (p : Packet) (s : List ℕ) : Type 0 where
  pub accepts : fields_wrong p (length (source_of p s)) ≡ false
  pub octets : packet_octets p (source_of p s) ≡ s

abbrev pub WritesBack : Type 0
WritesBack = (s : List ℕ) (p : Packet) → ((i : ℕ) → at s i < 256) → read_packet s ≡ accept p → WrittenBack p s
