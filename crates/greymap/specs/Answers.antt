-- What the calls answer.
use Rattle.std.specs.Prelude.{Result}
use Rattle.answer.specs.declared.Reason.{Reason}
use Rattle.greymap.specs.declared.Lengths.{Lengths}

-- What writing answers: both lengths, or why it is refused.
abbrev pub PictureWritten : Type 0
PictureWritten = Result Lengths Reason

-- What reading answers: that both were read, or why it is refused.
abbrev pub PictureRead : Type 0
PictureRead = Result (Unit {0}) Reason
