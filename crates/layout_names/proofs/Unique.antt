-- No second result satisfies a contract of this crate's public functions.
use Rattle.octets.specs.Unique.{Fixes}
use Rattle.octets.proofs.Fixed.{fixed}
use Rattle.layout_names.proofs.lines.Kinds as klines
use Rattle.layout_names.proofs.lines.Reads as rlines
use Rattle.layout_names.proofs.repeated.Kinds as krepeated
use Rattle.layout_names.proofs.repeated.Reads as rrepeated

pub lines_fixed : Fixes klines.ps klines.r rlines.Post (λ κs x s. x)
lines_fixed = fixed klines.ps klines.r rlines.Post _ _ (λ κs a x s p. p)

pub repeated_fixed : Fixes krepeated.ps krepeated.r rrepeated.Post (λ κs x s. x)
repeated_fixed = fixed krepeated.ps krepeated.r rrepeated.Post _ _ (λ κs a x s p. p)
