-- The generator's own bits are not seen, and the two examples are computed.
use Prim.Native.Nat.{ℕ}
use mathlib.Core.Path.{◌≡◌, refl, sym, ap, ◌∙◌}
use mathlib.Core.Bool.{Bool}
use mathlib.Core.List.{List, ◌++◌}
use Rattle.octets.specs.Pick.{pick}
use Rattle.bits.specs.Rows.{plus, zeros, number_of}
use Rattle.bits.proofs.Rows.{plus_comm, plus_twice}
use Rattle.crc.specs.Check.{run, register, check, check_wrong}
use Rattle.crc.proofs.Register.{Z, run-append, plus_Z}
use Rattle.crc.proofs.Octets.{length-register}
use Rattle.packet.specs.Packet.{length_wrong, read_packet}
use Rattle.frame.specs.Address.{first_wrong, wrong_behind}
use Rattle.frame.specs.Frame.{status_wrong, pointer_wrong, read_information, read_header, read_frame}
use Rattle.about_damage.specs.Unseen.{four, GeneratorUnseen, PacketUnseen, FrameUnseen}
use Rattle.about_damage.proofs.Register.{run-zeros}
use Rattle.about_damage.proofs.Shows.{changes-run}

-- wherever they come in, they leave all zeros as they were
four-run : (i k : ℕ) → run Z (zeros i ++ (four ++ zeros k)) ≡ Z
four-run i k =
    run-append Z (zeros i) (four ++ zeros k) ∙ ap (λ (r : List Bool). run r (four ++ zeros k)) (run-zeros i)
    ∙ run-append Z four (zeros k) ∙ run-zeros k

pub generator_unseen : GeneratorUnseen
unfolding check
generator_unseen o m was became i k same e =
    let x : List Bool = register o was in
    let y : List Bool = register o became in
    let none : plus x y ≡ Z = sym (changes-run o was became same) ∙ ap (run Z) e ∙ four-run i k in
    ap (λ (r : List Bool). number_of o (plus r m))
    (sym (plus_Z y (length-register o became)) ∙ plus_comm y Z ∙ ap (λ (r : List Bool). plus r y) (sym none)
    ∙ plus_twice x y (length-register o was ∙ sym (length-register o became)))

pub packet_unseen : PacketUnseen
unfolding read_packet length_wrong check_wrong check pick
packet_unseen = (record { bits = refl; within = record { from = 72; before = refl; behind = refl } }, (refl, refl))

pub frame_unseen : FrameUnseen
unfolding read_frame read_header read_information first_wrong wrong_behind status_wrong pointer_wrong check_wrong check pick
frame_unseen = (record { bits = refl; within = record { from = 200; before = refl; behind = refl } }, (refl, refl))
