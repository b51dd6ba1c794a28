-- No second result satisfies a contract of this crate's public functions.
use Prim.Native.Nat.{ℕ}
use mathlib.Core.List.{List}
use Rattle.octets.specs.Unique.{Fixes}
use Rattle.decimal.proofs.Laid.{one-put}
use Rattle.listing_lines.proofs.header_line.Kinds as kheader
use Rattle.listing_lines.proofs.header_line.Reads as rheader
use Rattle.listing_lines.proofs.bad_line.Kinds as kbad
use Rattle.listing_lines.proofs.bad_line.Reads as rbad
use Rattle.listing_lines.proofs.answer_line.Kinds as kanswer
use Rattle.listing_lines.proofs.answer_line.Reads as ranswer
use Rattle.listing_lines.proofs.packet_line.Kinds as kpacket
use Rattle.listing_lines.proofs.packet_line.Reads as rpacket

-- the answer and the lent output afterwards
pub header_line_fixed : Fixes kheader.ps kheader.r {A = ℕ × List ℕ} rheader.Post (λ κs x s. (x, s.0.now))
header_line_fixed κs a x y s t p q = one-put p q

pub bad_line_fixed : Fixes kbad.ps kbad.r {A = ℕ × List ℕ} rbad.Post (λ κs x s. (x, s.0.now))
bad_line_fixed κs a x y s t p q = one-put p q

pub answer_line_fixed : Fixes kanswer.ps kanswer.r {A = ℕ × List ℕ} ranswer.Post (λ κs x s. (x, s.0.now))
answer_line_fixed κs a x y s t p q = one-put p q

pub packet_line_fixed : Fixes kpacket.ps kpacket.r {A = ℕ × List ℕ} rpacket.Post (λ κs x s. (x, s.0.now))
packet_line_fixed κs a x y s t p q = one-put p q
