-- The worked example, by computation.
use mathlib.Core.Path.{refl}
use Rattle.sender.specs.Frames.{choices_of}
use Rattle.about_delivery.specs.Example.{Example}

pub example : Example
unfolding choices_of
example = record { cut = refl; even = refl; none = refl; back = refl; other = refl }
