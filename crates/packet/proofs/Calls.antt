-- Demand 2 over the calls `write`, `read` and `source`, by the contracts that Rattle generates of them.
use Rattle.std.specs.Prelude.{Ok}
use Prim.Native.Nat.{ℕ}
use mathlib.Core.Path.{◌≡◌, refl}
use mathlib.Core.List.{List}
use lib.ListN.{length}
use Rattle.answer.specs.Called.{Called}
use Rattle.answer.specs.Back.{Format, CallsBack}
use Rattle.answer.specs.Writer.{Written}
use Rattle.answer.proofs.Called.{of_call}
use Rattle.answer.proofs.Back.{Defined}
use Rattle.answer.proofs.Back as back
use Rattle.packet.specs.Packet.{told, read_packet, source_of}
use Rattle.packet.specs.Write.{fields_wrong, packet_octets, WrotePacket}
use Rattle.packet.specs.declared.Packet.{Packet}
use Rattle.packet.specs.Answers.{PacketRead}
use Rattle.packet.proofs.Back.{reads-back, writes-back}
use Rattle.packet.proofs.Told.{told_apart}
use Rattle.packet.proofs.Packet.read.Kinds as kread
use Rattle.packet.proofs.Packet.read.Reads as rread
use Rattle.packet.proofs.Packet.source.Kinds as ksource
use Rattle.packet.proofs.Packet.source.Reads as rsource
use Rattle.packet.proofs.Packet.write.Kinds as kwrite
use Rattle.packet.proofs.Packet.write.Reads as rwrite

-- fields, source data, output, answer and output afterwards of a call of `write`
abbrev pub Writes : Packet → List ℕ → List ℕ → Written → List ℕ → Type 0
Writes p d out r out' =
    Called kwrite.ps kwrite.r rwrite.Post {A = Packet × List ℕ × List ℕ × Written × List ℕ}
    (λ κs a x s. (a.0, a.1.0.now, a.1.1.0.now, x, s.1.1.0.now)) (p, d, out, r, out')

-- octets and answer of a call of `read`
abbrev pub Reads : List ℕ → PacketRead → Type 0
Reads s q = Called kread.ps kread.r rread.Post {A = List ℕ × PacketRead} (λ κs a x e. (a.0.now, x)) (s, q)

-- fields, octets and answer of a call of `source`
abbrev pub Finds : Packet → List ℕ → List ℕ → Type 0
Finds p s d = Called ksource.ps ksource.r rsource.Post {A = Packet × List ℕ × List ℕ} (λ κs a x e. (a.0, a.1.0.now, x.now)) (p, s, d)

-- beside a packet's fields stands its source data
abbrev pub format : Format Packet (List ℕ) PacketRead
format =
    record {
      wrong = λ p d. fields_wrong p (length d);
      octets = packet_octets;
      accepting = Ok;
      Writes = Writes;
      Reads = Reads;
      Finds = Finds;
    }

-- what the contracts say
writes : {p : Packet} {d out : List ℕ} {r : Written} {out' : List ℕ} → Writes p d out r out' → WrotePacket p d out r out'
writes c = of_call c (λ x. WrotePacket x.0 x.1 x.2 x.3 x.4) (λ κs a x s p. p)

reads : {s : List ℕ} {q : PacketRead} → Reads s q → told q ≡ read_packet s
reads c = of_call c (λ x. told x.1 ≡ read_packet x.0) (λ κs a x s p. p)

finds : {p : Packet} {s d : List ℕ} → Finds p s d → d ≡ source_of p s
finds c = of_call c (λ x. x.2 ≡ source_of x.0 x.1) (λ κs a x s p. p)

defined : Defined format
defined =
    record {
      told = told;
      reading = read_packet;
      beside = source_of;
      writes = writes;
      reads = reads;
      finds = finds;
      tells = λ p. refl;
      apart = told_apart;
      reads-back = λ p d right. let k = reads-back p d right in (k.fields, k.source);
      writes-back = λ s p octet h. let k = writes-back s p octet h in (k.accepts, k.octets);
    }

pub calls_back : CallsBack format
calls_back = back.calls_back format defined
