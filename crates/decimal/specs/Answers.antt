-- What the calls answer.
use Rattle.std.specs.Prelude.{Option, ℕ}

-- What reading a number answers: the number and the index behind the octet that ends it; none where none is written there.
abbrev pub NumberRead : Type 0
NumberRead = Option (ℕ × ℕ)
