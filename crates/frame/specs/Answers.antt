-- What the calls answer.
use Rattle.std.specs.Prelude.{Result}
use Rattle.answer.specs.declared.Reason.{Reason}
use Rattle.frame.specs.declared.Frame.{Frame}

-- What a frame's octets are: its fields, or why it is refused.
abbrev pub FrameRead : Type 0
FrameRead = Result Frame Reason
