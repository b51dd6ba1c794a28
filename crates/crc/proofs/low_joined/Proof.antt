-- `crc::low_joined` meets its contract.
use native.Mathlib.Omega.{arith}
use mir.Facts.{Fits-8_64}
use Rattle.crc.proofs.Joined.{eight_bits}
use Rattle.crc.proofs.low_joined.Statement.{statement}
use Rattle.crc.proofs.low_joined.Tie as tie

returns : tie.Need-returns
returns c =
    eight_bits _ c.args.i
    (λ k. omega (arith, c.shared_slice_known-8-1.given k)) (omega arith)

pub low_joined_spec : {M : Type 1} → statement M
low_joined_spec =
    tie.close
    (tie.spec
    (λ c. omega arith) (λ c. omega arith) (λ c. Fits-8_64 (c.shared_slice_known-1.given _))
    (λ c. omega arith) (λ c. omega arith) (λ c. Fits-8_64 (c.shared_slice_known-2-1.given _))
    (λ c. omega arith) (λ c. omega arith) (λ c. Fits-8_64 (c.shared_slice_known-3-1.given _))
    (λ c. omega arith) (λ c. omega arith) (λ c. Fits-8_64 (c.shared_slice_known-4-1.given _))
    (λ c. omega arith) (λ c. omega arith) (λ c. Fits-8_64 (c.shared_slice_known-5-1.given _))
    (λ c. omega arith) (λ c. omega arith) (λ c. Fits-8_64 (c.shared_slice_known-6-1.given _))
    (λ c. omega arith) (λ c. omega arith) (λ c. Fits-8_64 (c.shared_slice_known-7-1.given _))
    (λ c. omega arith) (λ c. Fits-8_64 (c.shared_slice_known-8-1.given _))
    returns)
